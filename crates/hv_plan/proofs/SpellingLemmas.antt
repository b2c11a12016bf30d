-- What the table of a plan's lines spells is what is read.
use Rattle.hv_text.specs.declared.fault.TheConstants.{MOST_BYTES}
use Rattle.std.proofs.Common.{◌≡◌, ◌≤◌, ◌||◌, ℕ, Bool, true, false, List, [], ◌∷◌, ◌++◌, length, Option, Some, None, Result, Ok, Err, ◌↔◌, refl, sym, ap, ◌∙◌, subst, arith, codes, if◌then◌else◌}
use Rattle.std.specs.Prelude.{IfSome, IfOk, IfErr}
use Rattle.std.specs.Option.{option_map, option_and_then}
use Rattle.std.specs.Str.{bytes_eq}
use Rattle.std.proofs.lemmas.Slice.Eq.{bytes_eq-Decides}
use Rattle.std.proofs.lemmas.List.{append-nil, append_assoc}
use Rattle.hv_text.specs.Words.{Piece, word, left, right, bad, pieces, first_bad}
use Rattle.hv_text.specs.declared.span.Span.{Span}
use Rattle.hv_plan.specs.Lines.{NumberedLine, has_start, has_end, between}
use Rattle.hv_plan.specs.Forms.{Form, blank, action, decomposition, root, both, every, is_digits, value_from, id_of, id_at, name_at, inside, bare as without_parentheses, names_of, named, task_of, Parts, parts_of, with_front, Method, method_of, node_of, action_of, decomposition_of, root_of, form_of, fits, listed, sound, said}
use Rattle.hv_plan.specs.Values.{Root, Plan}
use Rattle.hv_plan.specs.Plans.{actions_in, decompositions_in, roots_in, actions_of, decompositions_of, roots_of, is_root, fault_of, first_of, fault_from, IsBody, IsPlanRead, IsFaultRead}
use Rattle.hv_plan.specs.Spellings.{SpellsId, an_id, SpellsName, a_name, SpellsArrow, an_arrow, Each, no_more, one_more, SpellsTask, bare, in_parentheses, SpellsForm, no_words, an_action, a_decomposition, a_root, Says, action_in, decomposition_in, root_in, actions_among, decompositions_among, roots_among, SayPlan, SayNoRoot, IsFaulty, bad_byte, bad_line, id_too_large, IsPlan, IsFirstFault, no_form, second_root, IsFaultOfLines, IsFaultBetween, IsPlanFault}
use Rattle.hv_plan.proofs.Lemmas.{with_front-append}
use Rattle.hv_plan.specs.declared.fault.PlanFault.{PlanFault}
use Rattle.hv_plan.specs.declared.fault.PlanFault.TheVariants as faults

same_key : (k j : List ℕ) → bytes_eq k j ≡ true → k ≡ j
same_key k j e = (bytes_eq-Decides k j).0 e

not_true : {P : Type 0} → false ≡ true → P
not_true clash = absurd (let e : false ≡ true = clash in cc)

-- one after another
module _ {B : Type 0} (f : Piece → Option B) (Spells : Piece → B → Type 0) (read : (p : Piece) (b : B) → Spells p b → f p ≡ Some b) (spelled : (p : Piece) → IfSome (f p) (Spells p)) where
  each_read : (ps : List Piece) (bs : List B) → Each Spells ps bs → every f ps ≡ Some bs
  each_read _ _ no_more = refl
  each_read _ _ (one_more p ps b bs h k) = rw (read p b h, each_read ps bs k) refl

  each_spelled : (ps : List Piece) → IfSome (every f ps) (Each Spells ps)
  each_spelled [] = no_more
  each_spelled (p ∷ ps) = join (f p) (every f ps) (spelled p) (each_spelled ps)
    where
      join : (o : Option B) (r : Option (List B)) → IfSome o (Spells p) → IfSome r (Each Spells ps) → IfSome (both ◌∷◌ o r) (Each Spells (p ∷ ps))
      join None r h k = tt
      join (Some b) None h k = tt
      join (Some b) (Some bs) h k = one_more p ps b bs h k

-- ids and names
id_read : (p : Piece) (i : ℕ) → SpellsId p i → id_at p ≡ Some i
id_read _ _ (an_id w s e) = rw e refl

id_spelled : (p : Piece) → IfSome (id_at p) (SpellsId p)
id_spelled (word w s) = tell (is_digits w) refl
  where
    tell : (b : Bool) → is_digits w ≡ b → IfSome (if b then Some (value_from 0 w) else None) (SpellsId (word w s))
    tell true e = an_id w s e
    tell false e = tt
id_spelled (left s) = tt
id_spelled (right s) = tt
id_spelled (bad s) = tt

name_read : (p : Piece) (w : List ℕ) → SpellsName p w → name_at p ≡ Some w
name_read _ _ (a_name w s e) = rw e refl

name_spelled : (p : Piece) → IfSome (name_at p) (SpellsName p)
name_spelled (word w s) = tell (bytes_eq w (codes "->")) refl
  where
    tell : (b : Bool) → bytes_eq w (codes "->") ≡ b → IfSome (if b then None else Some w) (SpellsName (word w s))
    tell true e = tt
    tell false e = a_name w s e
name_spelled (left s) = tt
name_spelled (right s) = tt
name_spelled (bad s) = tt

names_read : (ps : List Piece) (ws : List (List ℕ)) → Each SpellsName ps ws → every name_at ps ≡ Some ws
names_read = each_read name_at SpellsName name_read name_spelled

names_spelled : (ps : List Piece) → IfSome (every name_at ps) (Each SpellsName ps)
names_spelled = each_spelled name_at SpellsName name_read name_spelled

ids_read : (ps : List Piece) (is : List ℕ) → Each SpellsId ps is → every id_at ps ≡ Some is
ids_read = each_read id_at SpellsId id_read id_spelled

ids_spelled : (ps : List Piece) → IfSome (every id_at ps) (Each SpellsId ps)
ids_spelled = each_spelled id_at SpellsId id_read id_spelled

-- tasks
inside_names : (ps : List Piece) (ws : List (List ℕ)) (r : Span) → Each SpellsName ps ws → inside (ps ++ right r ∷ []) ≡ Some ps
inside_names _ _ r no_more = refl
inside_names _ _ r (one_more _ ps _ ws (a_name w s e) k) = rw (inside_names ps ws r k) refl

plain : (ps : List Piece) (ws : List (List ℕ)) → Each SpellsName ps ws → without_parentheses ps ≡ Some ps
plain _ _ no_more = refl
plain _ _ (one_more _ ps _ ws (a_name w s e) k) = refl

task_read : (ps : List Piece) (ws : List (List ℕ)) → SpellsTask ps ws → names_of ps ≡ Some ws
task_read _ _ (bare ps ws h) = rw (plain ps ws h) (names_read ps ws h)
task_read _ _ (in_parentheses s r ps ws h) = rw (inside_names ps ws r h) (names_read ps ws h)

record Closed (ps qs : List Piece) : Type 0 where
  place : Span
  split : ps ≡ qs ++ right place ∷ []

closed_more : (p : Piece) (ps : List Piece) (o : Option (List Piece)) → IfSome o (Closed ps) → IfSome (option_map (λ qs. p ∷ qs) o) (Closed (p ∷ ps))
closed_more p ps None h = tt
closed_more p ps (Some qs) h = record { place = h.place; split = ap (λ xs. p ∷ xs) h.split }

inside_closed : (ps : List Piece) → IfSome (inside ps) (Closed ps)
inside_closed [] = tt
inside_closed (right s ∷ []) = record { place = s; split = refl }
inside_closed (right s ∷ p ∷ ps) = closed_more (right s) (p ∷ ps) (inside (p ∷ ps)) (inside_closed (p ∷ ps))
inside_closed (word w s ∷ ps) = closed_more (word w s) ps (inside ps) (inside_closed ps)
inside_closed (left s ∷ ps) = closed_more (left s) ps (inside ps) (inside_closed ps)
inside_closed (bad s ∷ ps) = closed_more (bad s) ps (inside ps) (inside_closed ps)

if_weaker : {A : Type 0} (P Q : A → Type 0) → ((a : A) → P a → Q a) → (o : Option A) → IfSome o P → IfSome o Q
if_weaker P Q h None p = tt
if_weaker P Q h (Some a) p = h a p

bare_spelled : (ps : List Piece) → IfSome (every name_at ps) (SpellsTask ps)
bare_spelled ps = if_weaker (Each SpellsName ps) (SpellsTask ps) (λ ws h. bare ps ws h) (every name_at ps) (names_spelled ps)

task_spelled : (ps : List Piece) → IfSome (names_of ps) (SpellsTask ps)
task_spelled [] = bare_spelled []
task_spelled (word w s ∷ ps) = bare_spelled (word w s ∷ ps)
task_spelled (right s ∷ ps) = bare_spelled (right s ∷ ps)
task_spelled (bad s ∷ ps) = bare_spelled (bad s ∷ ps)
task_spelled (left s ∷ ps) = tell (inside ps) (inside_closed ps)
  where
    tell : (o : Option (List Piece)) → IfSome o (Closed ps) → IfSome (option_and_then (every name_at) o) (SpellsTask (left s ∷ ps))
    tell None h = tt
    tell (Some qs) h =
        if_weaker (Each SpellsName qs) (SpellsTask (left s ∷ ps))
        (λ ws k. subst (λ xs. SpellsTask (left s ∷ xs) ws) (sym h.split) (in_parentheses s h.place qs ws k))
        (every name_at qs) (names_spelled qs)

-- arrows
with_front-nil : (o : Option Parts) → o ≡ with_front [] o
with_front-nil None = refl
with_front-nil (Some h) = refl

names_before : (ps : List Piece) (ws : List (List ℕ)) → Each SpellsName ps ws → (rest : List Piece) → parts_of (ps ++ rest) ≡ with_front ps (parts_of rest)
names_before _ _ no_more rest = with_front-nil (parts_of rest)
names_before _ _ (one_more _ ps _ ws (a_name w s e) k) rest =
    rw (e, names_before ps ws k rest) (with_front-append (word w s ∷ []) ps (parts_of rest))

task_before : (ps : List Piece) (ws : List (List ℕ)) → SpellsTask ps ws → (rest : List Piece) → parts_of (ps ++ rest) ≡ with_front ps (parts_of rest)
task_before _ _ (bare ps ws h) rest = names_before ps ws h rest
task_before _ _ (in_parentheses s r ps ws h) rest =
    let inner : parts_of (ps ++ right r ∷ [] ++ rest) ≡ with_front (ps ++ right r ∷ []) (parts_of rest) =
    ap parts_of (append_assoc ps (right r ∷ []) rest) ∙ names_before ps ws h (right r ∷ rest) ∙ with_front-append ps (right r ∷ []) (parts_of rest) in
    ap (with_front (left s ∷ [])) inner ∙ with_front-append (left s ∷ []) (ps ++ right r ∷ []) (parts_of rest)

task_whole : (ps : List Piece) (ws : List (List ℕ)) → SpellsTask ps ws → parts_of ps ≡ None
task_whole ps ws h = ap parts_of (sym (append-nil ps)) ∙ task_before ps ws h []

task_parts : (ps : List Piece) (ws : List (List ℕ)) (a : Piece) (rest : List Piece) → SpellsTask ps ws → SpellsArrow a
    → parts_of (ps ++ a ∷ rest) ≡ Some (record { before = ps; after = rest })
task_parts ps ws _ rest h (an_arrow w s e) =
    let here : parts_of (word w s ∷ rest) ≡ Some (record { before = []; after = rest }) = rw e refl in
    task_before ps ws h (word w s ∷ rest) ∙ ap (with_front ps) here ∙ ap (λ xs. Some (record { before = xs; after = rest })) (append-nil ps)

record Split (ps : List Piece) (h : Parts) : Type 0 where
  arrow : Piece
  is : SpellsArrow arrow
  split : ps ≡ h.before ++ arrow ∷ h.after

split_more : (p : Piece) (ps : List Piece) (o : Option Parts) → IfSome o (Split ps) → IfSome (with_front (p ∷ []) o) (Split (p ∷ ps))
split_more p ps None h = tt
split_more p ps (Some q) h = record { arrow = h.arrow; is = h.is; split = ap (λ xs. p ∷ xs) h.split }

parts_split : (ps : List Piece) → IfSome (parts_of ps) (Split ps)
parts_split [] = tt
parts_split (left s ∷ ps) = split_more (left s) ps (parts_of ps) (parts_split ps)
parts_split (right s ∷ ps) = split_more (right s) ps (parts_of ps) (parts_split ps)
parts_split (bad s ∷ ps) = split_more (bad s) ps (parts_of ps) (parts_split ps)
parts_split (word w s ∷ ps) = tell (bytes_eq w (codes "->")) refl (parts_split ps)
  where
    tell : (b : Bool) → bytes_eq w (codes "->") ≡ b → IfSome (parts_of ps) (Split ps)
        → IfSome (if b then Some (record { before = []; after = ps }) else with_front (word w s ∷ []) (parts_of ps)) (Split (word w s ∷ ps))
    tell true e rest = record { arrow = word w s; is = an_arrow w s e; split = refl }
    tell false e rest = split_more (word w s) ps (parts_of ps) rest

-- what stands behind the arrow
record SpellsMethod (ps : List Piece) (m : Method) : Type 0 where
  head : Piece
  rest : List Piece
  split : ps ≡ head ∷ rest
  name : SpellsName head m.name
  ids : Each SpellsId rest m.children

method_spelled : (ps : List Piece) → IfSome (method_of ps) (SpellsMethod ps)
method_spelled [] = tt
method_spelled (p ∷ ps) = join (name_at p) (every id_at ps) (name_spelled p) (ids_spelled ps)
  where
    join : (o : Option (List ℕ)) (r : Option (List ℕ)) → IfSome o (SpellsName p) → IfSome r (Each SpellsId ps)
        → IfSome (both (λ w is. record { name = w; children = is }) o r) (SpellsMethod (p ∷ ps))
    join None r h k = tt
    join (Some w) None h k = tt
    join (Some w) (Some is) h k = record { head = p; rest = ps; split = refl; name = h; ids = k }

-- lines
not_root : (w : List ℕ) → is_digits w ≡ true → (b : Bool) → bytes_eq w (codes "root") ≡ b → b ≡ false
not_root w e true h = not_true (subst (λ v. is_digits v ≡ true) (same_key w (codes "root") h) e)
not_root w e false h = refl

form_read : (n : ℕ) (ps : List Piece) (f : Form) → SpellsForm n ps f → form_of n ps ≡ Some f
form_read n _ _ no_words = refl
form_read n _ _ (an_action _ ps _ w ws (an_id v s e) h) =
    rw (not_root v e (bytes_eq v (codes "root")) refl, e, task_whole ps (w ∷ ws) h, task_read ps (w ∷ ws) h) refl
form_read n _ _ (a_decomposition _ a m ps qs _ w ws v is (an_id u s e) h arrow name each) =
    rw (not_root u e (bytes_eq u (codes "root")) refl, e, task_parts ps (w ∷ ws) a (m ∷ qs) h arrow, task_read ps (w ∷ ws) h, name_read m v name, ids_read qs is each) refl
form_read n _ _ (a_root w s ps is e h) = rw (e, ids_read ps is h) refl

action_spelled : (n : ℕ) (w : List ℕ) (s : Span) (ps : List Piece) → is_digits w ≡ true
    → IfSome (action_of n (Some (value_from 0 w)) (task_of ps)) (SpellsForm n (word w s ∷ ps))
action_spelled n w s ps e = tell (names_of ps) (task_spelled ps)
  where
    tell : (o : Option (List (List ℕ))) → IfSome o (SpellsTask ps)
        → IfSome (action_of n (Some (value_from 0 w)) (option_and_then named o)) (SpellsForm n (word w s ∷ ps))
    tell None h = tt
    tell (Some []) h = tt
    tell (Some (v ∷ vs)) h = an_action (word w s) ps (value_from 0 w) v vs (an_id w s e) h

decomposition_spelled : (n : ℕ) (w : List ℕ) (s : Span) (ps : List Piece) (h : Parts) → is_digits w ≡ true → Split ps h
    → IfSome (decomposition_of n (Some (value_from 0 w)) (task_of h.before) (method_of h.after)) (SpellsForm n (word w s ∷ ps))
decomposition_spelled n w s ps h e cut = tell (names_of h.before) (method_of h.after) (task_spelled h.before) (method_spelled h.after)
  where
    tell : (o : Option (List (List ℕ))) (r : Option Method) → IfSome o (SpellsTask h.before) → IfSome r (SpellsMethod h.after)
        → IfSome (decomposition_of n (Some (value_from 0 w)) (option_and_then named o) r) (SpellsForm n (word w s ∷ ps))
    tell None r t k = tt
    tell (Some []) r t k = tt
    tell (Some (v ∷ vs)) None t k = tt
    tell (Some (v ∷ vs)) (Some m) t k =
        let whole : h.before ++ cut.arrow ∷ k.head ∷ k.rest ≡ ps = sym (cut.split ∙ ap (λ xs. h.before ++ cut.arrow ∷ xs) k.split) in
        subst (λ xs. SpellsForm n (word w s ∷ xs) (decomposition (record { id = value_from 0 w; name = v; arguments = vs; method = m.name; children = m.children; line = n }))) whole
        (a_decomposition (word w s) cut.arrow k.head h.before k.rest (value_from 0 w) v vs m.name m.children (an_id w s e) t cut.is k.name k.ids)

node_spelled : (n : ℕ) (w : List ℕ) (s : Span) (ps : List Piece) (b : Bool) → is_digits w ≡ b → (o : Option Parts) → IfSome o (Split ps)
    → IfSome (node_of n (if b then Some (value_from 0 w) else None) ps o) (SpellsForm n (word w s ∷ ps))
node_spelled n w s ps false e None h = tt
node_spelled n w s ps false e (Some q) h = tt
node_spelled n w s ps true e None h = action_spelled n w s ps e
node_spelled n w s ps true e (Some q) h = decomposition_spelled n w s ps q e h

root_spelled : (n : ℕ) (w : List ℕ) (s : Span) (ps : List Piece) → bytes_eq w (codes "root") ≡ true
    → IfSome (option_map (root_of n) (every id_at ps)) (SpellsForm n (word w s ∷ ps))
root_spelled n w s ps e = tell (every id_at ps) (ids_spelled ps)
  where
    tell : (o : Option (List ℕ)) → IfSome o (Each SpellsId ps) → IfSome (option_map (root_of n) o) (SpellsForm n (word w s ∷ ps))
    tell None h = tt
    tell (Some is) h = a_root w s ps is e h

form_spelled : (n : ℕ) (ps : List Piece) → IfSome (form_of n ps) (SpellsForm n ps)
form_spelled n [] = no_words
form_spelled n (left s ∷ ps) = tt
form_spelled n (right s ∷ ps) = tt
form_spelled n (bad s ∷ ps) = tt
form_spelled n (word w s ∷ ps) = tell (bytes_eq w (codes "root")) refl
  where
    tell : (b : Bool) → bytes_eq w (codes "root") ≡ b
        → IfSome (if b then option_map (root_of n) (every id_at ps) else node_of n (id_of w) ps (parts_of ps)) (SpellsForm n (word w s ∷ ps))
    tell true e = root_spelled n w s ps e
    tell false e = node_spelled n w s ps (is_digits w) refl (parts_of ps) (parts_split ps)

pub form_table : (n : ℕ) (ps : List Piece) (f : Form) → SpellsForm n ps f ↔ (form_of n ps ≡ Some f)
form_table n ps f = (form_read n ps f, λ e. subst (λ o. IfSome o (SpellsForm n ps)) e (form_spelled n ps))

-- what a line says
said_by : (l : NumberedLine) (f : Form) → Says l f → said l ≡ Ok f
said_by l f h = rw (h.clean, form_read l.number (pieces l.bytes) f h.spelled, h.small) refl

-- what a line says is a form or a fault, by the table
abbrev pub IsSaid : NumberedLine → Result Form PlanFault → Type 0
IsSaid l (Ok f) = Says l f
IsSaid l (Err e) = IsFaulty l e

pub is_said : (l : NumberedLine) → IsSaid l (said l)
is_said l = at_byte (first_bad (pieces l.bytes)) refl
  where
    at_size : (f : Form) (b : Bool) → first_bad (pieces l.bytes) ≡ None → SpellsForm l.number (pieces l.bytes) f → fits f ≡ b
        → IsSaid l (if b then Ok f else Err (faults.IdTooLarge l.number))
    at_size f true clean h e = record { clean = clean; spelled = h; small = e }
    at_size f false clean h e = id_too_large f clean h e

    at_form : (o : Option Form) → first_bad (pieces l.bytes) ≡ None → form_of l.number (pieces l.bytes) ≡ o → IsSaid l (listed l.number o)
    at_form None clean e = bad_line clean (λ f h. let clash : None ≡ Some f = sym e ∙ form_read l.number (pieces l.bytes) f h in cc)
    at_form (Some f) clean e = at_size f (fits f) clean ((form_table l.number (pieces l.bytes) f).1 e) refl

    at_byte : (o : Option Span) → first_bad (pieces l.bytes) ≡ o → IsSaid l (sound l.number o (listed l.number (form_of l.number (pieces l.bytes))))
    at_byte (Some s) e = bad_byte s e
    at_byte None e = at_form (form_of l.number (pieces l.bytes)) e refl

faulty_said : (l : NumberedLine) (e : PlanFault) → IsFaulty l e → said l ≡ Err e
faulty_said l _ (bad_byte s e) = rw e refl
faulty_said l _ (bad_line e none) = rw e (ap (listed l.number) (no_form_read (form_of l.number (pieces l.bytes)) refl))
  where
    no_form_read : (o : Option Form) → form_of l.number (pieces l.bytes) ≡ o → form_of l.number (pieces l.bytes) ≡ None
    no_form_read None h = h
    no_form_read (Some f) h = absurd (none f ((form_table l.number (pieces l.bytes) f).1 h))
faulty_said l _ (id_too_large f e h large) = rw (e, form_read l.number (pieces l.bytes) f h, large) refl

-- what lines say together
actions_by_form : (f : Form) → actions_in (Ok f) ≡ action_in f
actions_by_form blank = refl
actions_by_form (action a) = refl
actions_by_form (decomposition d) = refl
actions_by_form (root r) = refl

decompositions_by_form : (f : Form) → decompositions_in (Ok f) ≡ decomposition_in f
decompositions_by_form blank = refl
decompositions_by_form (action a) = refl
decompositions_by_form (decomposition d) = refl
decompositions_by_form (root r) = refl

roots_by_form : (f : Form) → roots_in (Ok f) ≡ root_in f
roots_by_form blank = refl
roots_by_form (action a) = refl
roots_by_form (decomposition d) = refl
roots_by_form (root r) = refl

actions_said : (ls : List NumberedLine) (fs : List Form) → Each Says ls fs → actions_of ls ≡ actions_among fs
actions_said _ _ no_more = refl
actions_said _ _ (one_more l ls f fs h k) = rw (said_by l f h, actions_by_form f) (ap (λ xs. action_in f ++ xs) (actions_said ls fs k))

decompositions_said : (ls : List NumberedLine) (fs : List Form) → Each Says ls fs → decompositions_of ls ≡ decompositions_among fs
decompositions_said _ _ no_more = refl
decompositions_said _ _ (one_more l ls f fs h k) = rw (said_by l f h, decompositions_by_form f) (ap (λ xs. decomposition_in f ++ xs) (decompositions_said ls fs k))

pub roots_said : (ls : List NumberedLine) (fs : List Form) → Each Says ls fs → roots_of ls ≡ roots_among fs
roots_said _ _ no_more = refl
roots_said _ _ (one_more l ls f fs h k) = rw (said_by l f h, roots_by_form f) (ap (λ xs. root_in f ++ xs) (roots_said ls fs k))

no_more_roots : (r : Root) (rs : List Root) → r ∷ rs ≡ [] → ⊥
no_more_roots r rs e = cc

rest_of_one : (r s : Root) (rs : List Root) → r ∷ rs ≡ s ∷ [] → rs ≡ []
rest_of_one r s rs e = cc

-- lines that say forms have no fault, where at most one is a root
pub rootless_sound : (ls : List NumberedLine) (fs : List Form) → Each Says ls fs → roots_among fs ≡ [] → (rooted : Bool) → fault_from rooted ls ≡ None
rootless_sound _ _ no_more e rooted = refl
rootless_sound _ _ (one_more l ls blank fs h k) e rooted = rw (said_by l blank h) (rootless_sound ls fs k e (rooted || false))
rootless_sound _ _ (one_more l ls (action a) fs h k) e rooted = rw (said_by l (action a) h) (rootless_sound ls fs k e (rooted || false))
rootless_sound _ _ (one_more l ls (decomposition d) fs h k) e rooted = rw (said_by l (decomposition d) h) (rootless_sound ls fs k e (rooted || false))
rootless_sound _ _ (one_more l ls (root r) fs h k) e rooted = absurd (no_more_roots r (roots_among fs) e)

rooted_sound : (ls : List NumberedLine) (fs : List Form) (r : Root) → Each Says ls fs → roots_among fs ≡ r ∷ [] → fault_from false ls ≡ None
rooted_sound _ _ r no_more e = refl
rooted_sound _ _ r (one_more l ls blank fs h k) e = rw (said_by l blank h) (rooted_sound ls fs r k e)
rooted_sound _ _ r (one_more l ls (action a) fs h k) e = rw (said_by l (action a) h) (rooted_sound ls fs r k e)
rooted_sound _ _ r (one_more l ls (decomposition d) fs h k) e = rw (said_by l (decomposition d) h) (rooted_sound ls fs r k e)
rooted_sound _ _ r (one_more l ls (root s) fs h k) e = rw (said_by l (root s) h) (rootless_sound ls fs k (rest_of_one s r (roots_among fs) e) true)

-- lines without a fault say forms
pub record SayForms (ls : List NumberedLine) : Type 0 where
  forms : List Form
  each : Each Says ls forms

with_form : (l : NumberedLine) (ls : List NumberedLine) (f : Form) → Says l f → SayForms ls → SayForms (l ∷ ls)
with_form l ls f h rest = record { forms = f ∷ rest.forms; each = one_more l ls f rest.forms h rest.each }

pub sound_forms : (rooted : Bool) (ls : List NumberedLine) → fault_from rooted ls ≡ None → SayForms ls
sound_forms rooted [] e = record { forms = []; each = no_more }
sound_forms rooted (l ∷ ls) e = tell (said l) (is_said l) e (λ b. sound_forms b ls)
  where
    of_root : (r : Root) (b : Bool) → Says l (root r) → first_of (if b then Some (faults.RepeatedRoot l.number) else None) (fault_from (b || true) ls) ≡ None
        → ((c : Bool) → fault_from c ls ≡ None → SayForms ls) → SayForms (l ∷ ls)
    of_root r true h e later = absurd (let clash : Some (faults.RepeatedRoot l.number) ≡ None = e in cc)
    of_root r false h e later = with_form l ls (root r) h (later true e)

    tell : (r : Result Form PlanFault) → IsSaid l r → first_of (fault_of rooted l.number r) (fault_from (rooted || is_root r) ls) ≡ None
        → ((b : Bool) → fault_from b ls ≡ None → SayForms ls) → SayForms (l ∷ ls)
    tell (Err f) h e later = absurd (let clash : Some f ≡ None = e in cc)
    tell (Ok blank) h e later = with_form l ls blank h (later (rooted || false) e)
    tell (Ok (action a)) h e later = with_form l ls (action a) h (later (rooted || false) e)
    tell (Ok (decomposition d)) h e later = with_form l ls (decomposition d) h (later (rooted || false) e)
    tell (Ok (root r)) h e later = of_root r rooted h e later

pub plan_table : (ls : List NumberedLine) (p : Plan) → SayPlan ls p ↔ IsBody ls p
plan_table ls p = (
  λ h. record {
    sound = rooted_sound ls h.forms p.root h.each h.root;
    actions = h.actions ∙ sym (actions_said ls h.forms h.each);
    decompositions = h.decompositions ∙ sym (decompositions_said ls h.forms h.each);
    root = roots_said ls h.forms h.each ∙ h.root;
  },
  λ h. said_plan h (sound_forms false ls h.sound),
)
  where
    said_plan : IsBody ls p → SayForms ls → SayPlan ls p
    said_plan h s = record {
      forms = s.forms;
      each = s.each;
      actions = h.actions ∙ actions_said ls s.forms s.each;
      decompositions = h.decompositions ∙ decompositions_said ls s.forms s.each;
      root = sym (roots_said ls s.forms s.each) ∙ h.root;
    }

-- the first fault, where `rooted` says that a root stands before all lines
abbrev pub AreAllowed : Bool → List Root → Type 0
AreAllowed true rs = rs ≡ []
AreAllowed false rs = length rs ≤ 1

abbrev IsSecond : Bool → List Root → Type 0
IsSecond true rs = rs ≡ []
IsSecond false rs = (r : Root) × (rs ≡ r ∷ [])

data FirstFrom (rooted : Bool) (ls : List NumberedLine) (e : PlanFault) : Type 0 where
  formless : (before after : List NumberedLine) (l : NumberedLine) (forms : List Form) → ls ≡ before ++ l ∷ after → Each Says before forms
      → AreAllowed rooted (roots_among forms) → IsFaulty l e → FirstFrom rooted ls e
  root_again : (before after : List NumberedLine) (l : NumberedLine) (forms : List Form) (r : Root) → ls ≡ before ++ l ∷ after → Each Says before forms
      → IsSecond rooted (roots_among forms) → Says l (root r) → e ≡ faults.RepeatedRoot l.number → FirstFrom rooted ls e

no_root_more : (b : Bool) → (b || false) ≡ b
no_root_more true = refl
no_root_more false = refl

none_allowed : (b : Bool) → AreAllowed b []
none_allowed true = refl
none_allowed false = omega arith

-- a line that is no root before them
behind : (rooted : Bool) (l : NumberedLine) (ls : List NumberedLine) (e : PlanFault) (f : Form) → root_in f ≡ [] → Says l f → FirstFrom rooted ls e → FirstFrom rooted (l ∷ ls) e
behind rooted l ls e f none h (formless before after m forms split each allowed faulty) =
    formless (l ∷ before) after m (f ∷ forms) (ap (λ xs. l ∷ xs) split) (one_more l before f forms h each)
    (subst (λ rs. AreAllowed rooted (rs ++ roots_among forms)) (sym none) allowed) faulty
behind rooted l ls e f none h (root_again before after m forms r split each second says is) =
    root_again (l ∷ before) after m (f ∷ forms) r (ap (λ xs. l ∷ xs) split) (one_more l before f forms h each)
    (subst (λ rs. IsSecond rooted (rs ++ roots_among forms)) (sym none) second) says is

-- and the root before them
behind_root : (l : NumberedLine) (ls : List NumberedLine) (e : PlanFault) (r : Root) → Says l (root r) → FirstFrom true ls e → FirstFrom false (l ∷ ls) e
behind_root l ls e r h (formless before after m forms split each allowed faulty) =
    formless (l ∷ before) after m (root r ∷ forms) (ap (λ xs. l ∷ xs) split) (one_more l before (root r) forms h each)
    (subst (λ rs. length (r ∷ rs) ≤ 1) (sym allowed) (omega arith)) faulty
behind_root l ls e r h (root_again before after m forms s split each second says is) =
    root_again (l ∷ before) after m (root r ∷ forms) s (ap (λ xs. l ∷ xs) split) (one_more l before (root r) forms h each)
    (r, ap (λ rs. r ∷ rs) second) says is

first_found : (rooted : Bool) (ls : List NumberedLine) (e : PlanFault) → fault_from rooted ls ≡ Some e → FirstFrom rooted ls e
first_found rooted [] e is = absurd (let clash : None ≡ Some e = is in cc)
first_found rooted (l ∷ ls) e is = tell (said l) (is_said l) is (λ b. first_found b ls e)
  where
    of_root : (r : Root) (b : Bool) → Says l (root r) → first_of (if b then Some (faults.RepeatedRoot l.number) else None) (fault_from (b || true) ls) ≡ Some e
        → ((c : Bool) → fault_from c ls ≡ Some e → FirstFrom c ls e) → FirstFrom b (l ∷ ls) e
    of_root r true h is later =
        root_again [] ls l [] r refl no_more refl h (let both : Some (faults.RepeatedRoot l.number) ≡ Some e = is in let same : faults.RepeatedRoot l.number ≡ e = cc in sym same)
    of_root r false h is later = behind_root l ls e r h (later true is)

    of_fault : (f : PlanFault) → IsFaulty l f → Some f ≡ Some e → FirstFrom rooted (l ∷ ls) e
    of_fault f h is = let same : f ≡ e = cc in formless [] ls l [] refl no_more (none_allowed rooted) (subst (IsFaulty l) same h)

    tell : (r : Result Form PlanFault) → IsSaid l r → first_of (fault_of rooted l.number r) (fault_from (rooted || is_root r) ls) ≡ Some e
        → ((b : Bool) → fault_from b ls ≡ Some e → FirstFrom b ls e) → FirstFrom rooted (l ∷ ls) e
    tell (Err f) h is later = of_fault f h is
    tell (Ok blank) h is later = behind rooted l ls e blank refl h (subst (λ b. FirstFrom b ls e) (no_root_more rooted) (later (rooted || false) is))
    tell (Ok (action a)) h is later = behind rooted l ls e (action a) refl h (subst (λ b. FirstFrom b ls e) (no_root_more rooted) (later (rooted || false) is))
    tell (Ok (decomposition d)) h is later = behind rooted l ls e (decomposition d) refl h (subst (λ b. FirstFrom b ls e) (no_root_more rooted) (later (rooted || false) is))
    tell (Ok (root r)) h is later = of_root r rooted h is later

at_most_one : (r : Root) (rs : List Root) → length (r ∷ rs) ≤ 1 → rs ≡ []
at_most_one r [] h = refl
at_most_one r (s ∷ rs) h = absurd (omega arith)

formless_found : (rooted : Bool) (before after : List NumberedLine) (l : NumberedLine) (forms : List Form) (e : PlanFault) → Each Says before forms
    → AreAllowed rooted (roots_among forms) → IsFaulty l e → fault_from rooted (before ++ l ∷ after) ≡ Some e
formless_found rooted _ after l _ e no_more allowed faulty = rw (faulty_said l e faulty) refl
formless_found rooted _ after l _ e (one_more m ms blank fs h k) allowed faulty =
    rw (said_by m blank h) (formless_found (rooted || false) ms after l fs e k (subst (λ b. AreAllowed b (roots_among fs)) (sym (no_root_more rooted)) allowed) faulty)
formless_found rooted _ after l _ e (one_more m ms (action a) fs h k) allowed faulty =
    rw (said_by m (action a) h) (formless_found (rooted || false) ms after l fs e k (subst (λ b. AreAllowed b (roots_among fs)) (sym (no_root_more rooted)) allowed) faulty)
formless_found rooted _ after l _ e (one_more m ms (decomposition d) fs h k) allowed faulty =
    rw (said_by m (decomposition d) h) (formless_found (rooted || false) ms after l fs e k (subst (λ b. AreAllowed b (roots_among fs)) (sym (no_root_more rooted)) allowed) faulty)
formless_found true _ after l _ e (one_more m ms (root r) fs h k) allowed faulty = absurd (no_more_roots r (roots_among fs) allowed)
formless_found false _ after l _ e (one_more m ms (root r) fs h k) allowed faulty =
    rw (said_by m (root r) h) (formless_found true ms after l fs e k (at_most_one r (roots_among fs) allowed) faulty)

second_found : (rooted : Bool) (before after : List NumberedLine) (l : NumberedLine) (forms : List Form) (r : Root) → Each Says before forms
    → IsSecond rooted (roots_among forms) → Says l (root r) → fault_from rooted (before ++ l ∷ after) ≡ Some (faults.RepeatedRoot l.number)
second_found true _ after l _ r no_more second says = rw (said_by l (root r) says) refl
second_found false _ after l _ r no_more (s, clash) says = absurd (no_more_roots s [] (sym clash))
second_found rooted _ after l _ r (one_more m ms blank fs h k) second says =
    rw (said_by m blank h) (second_found (rooted || false) ms after l fs r k (subst (λ b. IsSecond b (roots_among fs)) (sym (no_root_more rooted)) second) says)
second_found rooted _ after l _ r (one_more m ms (action a) fs h k) second says =
    rw (said_by m (action a) h) (second_found (rooted || false) ms after l fs r k (subst (λ b. IsSecond b (roots_among fs)) (sym (no_root_more rooted)) second) says)
second_found rooted _ after l _ r (one_more m ms (decomposition d) fs h k) second says =
    rw (said_by m (decomposition d) h) (second_found (rooted || false) ms after l fs r k (subst (λ b. IsSecond b (roots_among fs)) (sym (no_root_more rooted)) second) says)
second_found true _ after l _ r (one_more m ms (root s) fs h k) second says = absurd (no_more_roots s (roots_among fs) second)
second_found false _ after l _ r (one_more m ms (root s) fs h k) (t, one) says =
    rw (said_by m (root s) h) (second_found true ms after l fs r k (rest_of_one s t (roots_among fs) one) says)

pub fault_table : (ls : List NumberedLine) (e : PlanFault) → IsFirstFault ls e ↔ (fault_from false ls ≡ Some e)
fault_table ls e = (to e, λ is. from (first_found false ls e is))
  where
    to : (f : PlanFault) → IsFirstFault ls f → fault_from false ls ≡ Some f
    to _ (no_form before after l forms f split each few faulty) = ap (fault_from false) split ∙ formless_found false before after l forms f each few faulty
    to _ (second_root before after l forms r s split each one says) = ap (fault_from false) split ∙ second_found false before after l forms s each (r, one) says

    from : FirstFrom false ls e → IsFirstFault ls e
    from (formless before after l forms split each few faulty) = no_form before after l forms e split each few faulty
    from (root_again before after l forms s split each (r, one) says is) =
        subst (IsFirstFault ls) (sym is) (second_root before after l forms r s split each one says)

pub plan_of_read : {X E : Type 0} (text : List ℕ) (view : X → Plan) (r : Result X E) → IfOk r (λ x. IsPlanRead text (view x)) → IfOk r (λ x. IsPlan text (view x))
plan_of_read text view (Ok x) h = record { size = h.size; starts = h.starts; ends = h.ends; body = (plan_table (between text) (view x)).1 h.body }
plan_of_read text view (Err e) h = tt

-- lines without a fault and without a root
pub rootless_forms : (ls : List NumberedLine) → roots_of ls ≡ [] → SayForms ls → SayNoRoot ls
rootless_forms ls none s = record { forms = s.forms; each = s.each; rootless = sym (roots_said ls s.forms s.each) ∙ none }

first_between : (text : List ℕ) (f : PlanFault) → length text ≤ MOST_BYTES → has_start text ≡ true → has_end text ≡ true
    → fault_from false (between text) ≡ Some f → (IsFirstFault (between text) f → IsFaultOfLines (between text) f) → IsFaultBetween text f
first_between text f size starts ends is to = record { size = size; starts = starts; ends = ends; body = to ((fault_table (between text) f).1 is) }

-- the fault of a text from which no plan is read
pub fault_of_read : (text : List ℕ) (f : PlanFault) → IsFaultRead text f → IsPlanFault text f
fault_of_read text (faults.BadByte n) h = first_between text (faults.BadByte n) h.0 h.1 h.2 h.3 (λ x. x)
fault_of_read text (faults.BadLine n) h = first_between text (faults.BadLine n) h.0 h.1 h.2 h.3 (λ x. x)
fault_of_read text (faults.IdTooLarge n) h = first_between text (faults.IdTooLarge n) h.0 h.1 h.2 h.3 (λ x. x)
fault_of_read text (faults.RepeatedRoot n) h = first_between text (faults.RepeatedRoot n) h.0 h.1 h.2 h.3 (λ x. x)
fault_of_read text faults.NoRoot (size, starts, ends, (none, rootless)) =
    record { size = size; starts = starts; ends = ends; body = rootless_forms (between text) rootless (sound_forms false (between text) none) }
fault_of_read text faults.TooLong h = h
fault_of_read text faults.NoStart h = h
fault_of_read text faults.NoEnd h = h
fault_of_read text faults.Memory h = tt

pub fault_if_read : {X : Type 0} (text : List ℕ) (r : Result X PlanFault) → IfErr r (IsFaultRead text) → IfErr r (λ f. IsPlanFault text f)
fault_if_read text (Ok x) h = tt
fault_if_read text (Err f) h = fault_of_read text f h

-- a text holds one plan
pub one_plan : (text : List ℕ) (p q : Plan) → IsPlan text p → IsPlan text q → p ≡ q
one_plan text p q h k =
    let a = (plan_table (between text) p).0 h.body in
    let b = (plan_table (between text) q).0 k.body in
    let roots : p.root ∷ [] ≡ q.root ∷ [] = sym a.root ∙ b.root in
    let root : p.root ≡ q.root = cc in
    let actions : p.actions ≡ q.actions = a.actions ∙ sym b.actions in
    let decompositions : p.decompositions ≡ q.decompositions = a.decompositions ∙ sym b.decompositions in
    same_plan p q actions root decompositions
  where
    same_plan : (p q : Plan) → p.actions ≡ q.actions → p.root ≡ q.root → p.decompositions ≡ q.decompositions → p ≡ q
    same_plan p q a b c = λ i. record { actions = a i; root = b i; decompositions = c i }

-- a text that holds a plan has no fault
not_first : (ls : List NumberedLine) (p : Plan) (f : PlanFault) → SayPlan ls p → IsFirstFault ls f → ⊥
not_first ls p f h k =
    let none : fault_from false ls ≡ None = ((plan_table ls p).0 h).sound in
    let some : fault_from false ls ≡ Some f = (fault_table ls f).0 k in
    let clash : None ≡ Some f = sym none ∙ some in
    cc

not_rootless : (ls : List NumberedLine) (p : Plan) → SayPlan ls p → SayNoRoot ls → ⊥
not_rootless ls p h k =
    let some : roots_of ls ≡ p.root ∷ [] = ((plan_table ls p).0 h).root in
    let none : roots_of ls ≡ [] = roots_said ls k.forms k.each ∙ k.rootless in
    let clash : p.root ∷ [] ≡ [] = sym some ∙ none in
    cc

pub plan_or_fault : (text : List ℕ) (p : Plan) (f : PlanFault) → IsPlan text p → IsPlanFault text f → f ≡ faults.Memory
plan_or_fault text p (faults.BadByte n) h k = absurd (not_first (between text) p (faults.BadByte n) h.body k.body)
plan_or_fault text p (faults.BadLine n) h k = absurd (not_first (between text) p (faults.BadLine n) h.body k.body)
plan_or_fault text p (faults.IdTooLarge n) h k = absurd (not_first (between text) p (faults.IdTooLarge n) h.body k.body)
plan_or_fault text p (faults.RepeatedRoot n) h k = absurd (not_first (between text) p (faults.RepeatedRoot n) h.body k.body)
plan_or_fault text p faults.NoRoot h k = absurd (not_rootless (between text) p h.body k.body)
plan_or_fault text p faults.TooLong h k = let size = h.size in absurd (omega arith)
plan_or_fault text p faults.NoStart h k = let starts = h.starts in absurd (let clash : false ≡ true = sym k.1 ∙ starts in cc)
plan_or_fault text p faults.NoEnd h k = let ends = h.ends in absurd (let clash : false ≡ true = sym k.2 ∙ ends in cc)
plan_or_fault text p faults.Memory h k = refl
