-- The canonical text of a plan holds that plan, the numbers of its lines aside.
use Rattle.hv_lists.proofs.Bools.{or_right}
use Rattle.hv_text.specs.declared.fault.TheConstants.{MOST_BYTES}
use Rattle.std.proofs.Common.{◌≡◌, ◌+◌, ◌≤◌, ℕ, true, List, [], ◌∷◌, ◌++◌, map, length, refl, sym, ap, subst, ◌∙◌, codes}
use Rattle.std.specs.Prelude.{decimal}
use Rattle.std.specs.List.{flat_map, list_any}
use Rattle.std.proofs.lemmas.Grind.{flat_map-append}
use Rattle.std.proofs.lemmas.List.{append-nil, append_assoc}
use Rattle.hv_plan.specs.Values.{Action, Decomposition, Root, Plan}
use Rattle.hv_plan.specs.Lines.{lines, numbered, lines_of, is_start, is_end, behind_start, before_end, between}
use Rattle.hv_plan.specs.Forms.{Form, blank, action, decomposition, root}
use Rattle.hv_plan.specs.Spellings.{Each, no_more, one_more, Says, SayPlan, IsPlan, actions_among, decompositions_among, roots_among}
use Rattle.hv_plan.specs.Canonical.{words_text, ids_text, action_text, decomposition_text, root_text, plan_text}
use Rattle.hv_plan.specs.Bare.{bare_action, bare_decomposition, bare_root, bare_plan}
use Rattle.hv_plan.proofs.LineTexts.{line_clear, one_line}
use Rattle.hv_plan.proofs.FormTexts.{head_of, rest_of, line_of, placed, tidy_head, tidy_rest, line_says, line_is_inner}
use Rattle.hv_plan.proofs.SoundForms.{AreSound, forms_of, plan_sound}
use Rattle.hv_plan.proofs.SpellingLemmas.{one_plan}

-- the text of lines
abbrev text_of_line : Form → List ℕ
text_of_line f = line_of f ++ 10 ∷ []

abbrev texts : List Form → List ℕ
texts fs = flat_map text_of_line fs

ids_words : (is : List ℕ) → ids_text is ≡ words_text (map decimal is)
ids_words [] = refl
ids_words (i ∷ is) = ap (λ xs. 32 ∷ (decimal i ++ xs)) (ids_words is)

root_line : (r : Root) → root_text r ≡ text_of_line (root r)
root_line r = ap (λ xs. codes "root" ++ (xs ++ 10 ∷ [])) (ids_words r.ids) ∙ sym (append_assoc (codes "root") (words_text (map decimal r.ids)) (10 ∷ []))

-- what stands behind the task of a decomposition line
abbrev arrow_words : Decomposition → List (List ℕ)
arrow_words d = codes "->" ∷ d.method ∷ map decimal d.children

arrow_text : (d : Decomposition) → codes " ->" ++ (words_text (d.method ∷ []) ++ (ids_text d.children ++ codes "\n")) ≡ words_text (arrow_words d) ++ 10 ∷ []
arrow_text d =
    let j : List ℕ = words_text (map decimal d.children) in
    ap (λ xs. 32 ∷ 45 ∷ 62 ∷ 32 ∷ (xs ++ (ids_text d.children ++ 10 ∷ []))) (append-nil d.method)
    ∙ ap (λ xs. 32 ∷ 45 ∷ 62 ∷ 32 ∷ (d.method ++ (xs ++ 10 ∷ []))) (ids_words d.children)
    ∙ ap (λ xs. 32 ∷ 45 ∷ 62 ∷ 32 ∷ xs) (sym (append_assoc d.method j (10 ∷ [])))

decomposition_line : (d : Decomposition) → decomposition_text d ≡ text_of_line (decomposition d)
decomposition_line d =
    let task : List ℕ = words_text (d.name ∷ d.arguments) in
    let arrow : List ℕ = words_text (arrow_words d) in
    let split : words_text ((d.name ∷ d.arguments) ++ arrow_words d) ≡ task ++ arrow = flat_map-append (λ w. codes " " ++ w) (d.name ∷ d.arguments) (arrow_words d) in
    ap (λ xs. (decimal d.id ++ task) ++ xs) (arrow_text d)
    ∙ sym (append_assoc (decimal d.id ++ task) arrow (10 ∷ []))
    ∙ ap (λ xs. xs ++ 10 ∷ []) (append_assoc (decimal d.id) task arrow)
    ∙ ap (λ xs. (decimal d.id ++ xs) ++ 10 ∷ []) (sym split)

actions_text : (as' : List Action) → flat_map action_text as' ≡ texts (map action as')
actions_text [] = refl
actions_text (a ∷ as') = ap (λ xs. action_text a ++ xs) (actions_text as')

decompositions_text : (ds : List Decomposition) → flat_map decomposition_text ds ≡ texts (map decomposition ds)
decompositions_text [] = refl
decompositions_text (d ∷ ds) = ap (λ xs. xs ++ flat_map decomposition_text ds) (decomposition_line d) ∙ ap (λ xs. text_of_line (decomposition d) ++ xs) (decompositions_text ds)

-- the text of a plan, line by line
plan_lines : (p : Plan) → plan_text p ≡ codes "==>\n" ++ (texts (forms_of p) ++ codes "<==\n")
plan_lines p =
    let as' : List ℕ = texts (map action p.actions) in
    let ds : List ℕ = texts (map decomposition p.decompositions) in
    let r : List ℕ = text_of_line (root p.root) in
    let whole : texts (forms_of p) ≡ as' ++ (r ++ ds) = flat_map-append text_of_line (map action p.actions) (root p.root ∷ map decomposition p.decompositions) in
    let parts : flat_map action_text p.actions ++ (root_text p.root ++ (flat_map decomposition_text p.decompositions ++ codes "<==\n")) ≡ as' ++ (r ++ (ds ++ codes "<==\n")) =
    ap (λ xs. xs ++ (root_text p.root ++ (flat_map decomposition_text p.decompositions ++ codes "<==\n"))) (actions_text p.actions)
    ∙ ap (λ xs. as' ++ (xs ++ (flat_map decomposition_text p.decompositions ++ codes "<==\n"))) (root_line p.root)
    ∙ ap (λ xs. as' ++ (r ++ (xs ++ codes "<==\n"))) (decompositions_text p.decompositions) in
    let join : as' ++ (r ++ (ds ++ codes "<==\n")) ≡ (as' ++ (r ++ ds)) ++ codes "<==\n" =
    ap (λ xs. as' ++ xs) (sym (append_assoc r ds (codes "<==\n"))) ∙ sym (append_assoc as' (r ++ ds) (codes "<==\n")) in
    ap (λ xs. codes "==>\n" ++ xs) (parts ∙ join ∙ ap (λ xs. xs ++ codes "<==\n") (sym whole))

lines_of_texts : (fs : List Form) (rest : List ℕ) → AreSound fs → lines (texts fs ++ rest) ≡ map line_of fs ++ lines rest
lines_of_texts [] rest h = refl
lines_of_texts (f ∷ fs) rest h =
    let group : texts (f ∷ fs) ++ rest ≡ line_of f ++ 10 ∷ (texts fs ++ rest) =
    append_assoc (text_of_line f) (texts fs) rest ∙ append_assoc (line_of f) (10 ∷ []) (texts fs ++ rest) in
    ap lines group ∙ one_line (line_of f) (texts fs ++ rest) (line_clear (head_of f) (rest_of f) (tidy_head f h.0) (tidy_rest f h.0))
    ∙ ap (λ xs. line_of f ∷ xs) (lines_of_texts fs rest h.1)

abbrev body_of : List Form → List (List ℕ)
body_of fs = map line_of fs ++ codes "<==" ∷ []

all_lines : (p : Plan) → AreSound (forms_of p) → lines (plan_text p) ≡ codes "==>" ∷ body_of (forms_of p)
all_lines p h =
    ap lines (plan_lines p) ∙ one_line (codes "==>") (texts (forms_of p) ++ codes "<==\n") refl
    ∙ ap (λ xs. codes "==>" ∷ xs) (lines_of_texts (forms_of p) (codes "<==\n") h)

-- the lines between the markers, and what they say
abbrev placed_from : ℕ → List Form → List Form
placed_from n [] = []
placed_from n (f ∷ fs) = placed n f ∷ placed_from (n + 1) fs

body_before : (n : ℕ) (fs : List Form) → AreSound fs → before_end (numbered n (body_of fs)) ≡ numbered n (map line_of fs)
body_before n [] h = refl
body_before n (f ∷ fs) h =
    let inner = line_is_inner n f h.0 in
    rw inner (ap (λ xs. record { number = n; bytes = line_of f } ∷ xs) (body_before (n + 1) fs h.1))

body_ends : (n : ℕ) (fs : List Form) → list_any is_end (numbered n (body_of fs)) ≡ true
body_ends n [] = refl
body_ends n (f ∷ fs) = or_right (is_end (record { number = n; bytes = line_of f })) (list_any is_end (numbered (n + 1) (body_of fs))) (body_ends (n + 1) fs)

lines_say : (n : ℕ) (fs : List Form) → AreSound fs → Each Says (numbered n (map line_of fs)) (placed_from n fs)
lines_say n [] h = no_more
lines_say n (f ∷ fs) h =
    one_more (record { number = n; bytes = line_of f }) (numbered (n + 1) (map line_of fs)) (placed n f) (placed_from (n + 1) fs) (line_says n f h.0) (lines_say (n + 1) fs h.1)

same_actions : (n : ℕ) (fs : List Form) → map bare_action (actions_among (placed_from n fs)) ≡ map bare_action (actions_among fs)
same_actions n [] = refl
same_actions n (blank ∷ fs) = same_actions (n + 1) fs
same_actions n (action a ∷ fs) = ap (λ xs. bare_action a ∷ xs) (same_actions (n + 1) fs)
same_actions n (decomposition d ∷ fs) = same_actions (n + 1) fs
same_actions n (root r ∷ fs) = same_actions (n + 1) fs

same_decompositions : (n : ℕ) (fs : List Form) → map bare_decomposition (decompositions_among (placed_from n fs)) ≡ map bare_decomposition (decompositions_among fs)
same_decompositions n [] = refl
same_decompositions n (blank ∷ fs) = same_decompositions (n + 1) fs
same_decompositions n (action a ∷ fs) = same_decompositions (n + 1) fs
same_decompositions n (decomposition d ∷ fs) = ap (λ xs. bare_decomposition d ∷ xs) (same_decompositions (n + 1) fs)
same_decompositions n (root r ∷ fs) = same_decompositions (n + 1) fs

-- what is said of a plan is the plan's
no_actions : (ds : List Decomposition) → actions_among (map decomposition ds) ≡ []
no_actions [] = refl
no_actions (d ∷ ds) = no_actions ds

all_decompositions : (ds : List Decomposition) → decompositions_among (map decomposition ds) ≡ ds
all_decompositions [] = refl
all_decompositions (d ∷ ds) = ap (λ xs. d ∷ xs) (all_decompositions ds)

its_actions : (as' : List Action) (r : Root) (ds : List Decomposition) → actions_among (map action as' ++ root r ∷ map decomposition ds) ≡ as'
its_actions [] r ds = no_actions ds
its_actions (a ∷ as') r ds = ap (λ xs. a ∷ xs) (its_actions as' r ds)

its_decompositions : (as' : List Action) (r : Root) (ds : List Decomposition) → decompositions_among (map action as' ++ root r ∷ map decomposition ds) ≡ ds
its_decompositions [] r ds = all_decompositions ds
its_decompositions (a ∷ as') r ds = its_decompositions as' r ds

no_roots : (n : ℕ) (ds : List Decomposition) → roots_among (placed_from n (map decomposition ds)) ≡ []
no_roots n [] = refl
no_roots n (d ∷ ds) = no_roots (n + 1) ds

-- the root stands on some line
record RootAt (r : Root) (rs : List Root) : Type 0 where
  place : ℕ
  is : rs ≡ record { ids = r.ids; line = place } ∷ []

its_root : (n : ℕ) (as' : List Action) (r : Root) (ds : List Decomposition) → RootAt r (roots_among (placed_from n (map action as' ++ root r ∷ map decomposition ds)))
its_root n [] r ds = record { place = n; is = ap (λ xs. record { ids = r.ids; line = n } ∷ xs) (no_roots (n + 1) ds) }
its_root n (a ∷ as') r ds = its_root (n + 1) as' r ds

-- the text holds the plan
abbrev the_plan : ℕ → Plan → Plan
the_plan n p = record {
  actions = actions_among (placed_from 2 (forms_of p));
  root = record { ids = p.root.ids; line = n };
  decompositions = decompositions_among (placed_from 2 (forms_of p));
}

whole : (p : Plan) → AreSound (forms_of p) → lines_of (plan_text p) ≡ numbered 1 (codes "==>" ∷ body_of (forms_of p))
whole p h = ap (numbered 1) (all_lines p h)

inner : (p : Plan) → AreSound (forms_of p) → between (plan_text p) ≡ numbered 2 (map line_of (forms_of p))
inner p h = ap (λ ls. before_end (behind_start ls)) (whole p h) ∙ body_before 2 (forms_of p) h

is_plan : (p : Plan) → AreSound (forms_of p) → length (plan_text p) ≤ MOST_BYTES → (n : ℕ)
    → roots_among (placed_from 2 (forms_of p)) ≡ record { ids = p.root.ids; line = n } ∷ [] → IsPlan (plan_text p) (the_plan n p)
is_plan p h size n found = record {
  size = size;
  starts = ap (list_any is_start) (whole p h);
  ends = ap (λ ls. list_any is_end (behind_start ls)) (whole p h) ∙ body_ends 2 (forms_of p);
  body = subst (λ ls. SayPlan ls (the_plan n p)) (sym (inner p h)) (record {
    forms = placed_from 2 (forms_of p);
    each = lines_say 2 (forms_of p) h;
    actions = refl;
    decompositions = refl;
    root = found;
  });
}

is_same : (n : ℕ) (p : Plan) → bare_plan (the_plan n p) ≡ bare_plan p
is_same n p =
    let actions : map bare_action (actions_among (placed_from 2 (forms_of p))) ≡ map bare_action p.actions =
    same_actions 2 (forms_of p) ∙ ap (map bare_action) (its_actions p.actions p.root p.decompositions) in
    let decompositions : map bare_decomposition (decompositions_among (placed_from 2 (forms_of p))) ≡ map bare_decomposition p.decompositions =
    same_decompositions 2 (forms_of p) ∙ ap (map bare_decomposition) (its_decompositions p.actions p.root p.decompositions) in
    λ i. record { actions = actions i; root = bare_root p.root; decompositions = decompositions i }

plan_back : (p : Plan) → AreSound (forms_of p) → length (plan_text p) ≤ MOST_BYTES → (q : Plan) × IsPlan (plan_text p) q × (bare_plan q ≡ bare_plan p)
plan_back p h size =
    let found = its_root 2 p.actions p.root p.decompositions in
    (the_plan found.place p, is_plan p h size found.place found.is, is_same found.place p)

pub read_back : (text : List ℕ) (p : Plan) → IsPlan text p → length (plan_text p) ≤ MOST_BYTES → (q : Plan) × IsPlan (plan_text p) q × (bare_plan q ≡ bare_plan p)
read_back text p h size = plan_back p (plan_sound (between text) p h.body) size

-- places do not change the text
bare_actions_text : (as' : List Action) → flat_map action_text (map bare_action as') ≡ flat_map action_text as'
bare_actions_text [] = refl
bare_actions_text (a ∷ as') = ap (λ xs. action_text a ++ xs) (bare_actions_text as')

bare_decompositions_text : (ds : List Decomposition) → flat_map decomposition_text (map bare_decomposition ds) ≡ flat_map decomposition_text ds
bare_decompositions_text [] = refl
bare_decompositions_text (d ∷ ds) = ap (λ xs. decomposition_text d ++ xs) (bare_decompositions_text ds)

bare_text : (p : Plan) → plan_text (bare_plan p) ≡ plan_text p
bare_text p =
    ap (λ xs. codes "==>\n" ++ (xs ++ (root_text p.root ++ (flat_map decomposition_text (map bare_decomposition p.decompositions) ++ codes "<==\n")))) (bare_actions_text p.actions)
    ∙ ap (λ xs. codes "==>\n" ++ (flat_map action_text p.actions ++ (root_text p.root ++ (xs ++ codes "<==\n")))) (bare_decompositions_text p.decompositions)

-- what the canonical text holds is printed alike
pub printed_again : (text : List ℕ) (p q : Plan) → IsPlan text p → IsPlan (plan_text p) q → plan_text q ≡ plan_text p
printed_again text p q h k = go (read_back text p h k.size)
  where
    go : (o : Plan) × IsPlan (plan_text p) o × (bare_plan o ≡ bare_plan p) → plan_text q ≡ plan_text p
    go (o, is, same) = ap plan_text (one_plan (plan_text p) q o k is) ∙ sym (bare_text o) ∙ ap plan_text same ∙ bare_text p
