-- Expressions that are read one at a time.
use Rattle.std.proofs.Common.{◌≡◌, ◌||◌, ℕ, true, List, [], ◌∷◌, ◌++◌, map, Option, Some, None, Result, Ok, refl, sym, ap, ◌∙◌}
use Rattle.std.proofs.lemmas.List.{append-nil, append_assoc, map-append}
use Rattle.std.specs.Prelude.{option_map, option_and_then}
use Rattle.hv_text.specs.Trees.{Tree, Trees, word, list, none, more, place_of}
use Rattle.hv_text.specs.Rests.{Rest, last, lost, upto, add, enclose, here, ended}
use Rattle.hv_text.specs.declared.span.Span.{Span}
use Rattle.hv_reading.specs.inside.Reading.{both, every, behind}
use Rattle.hv_syntax.specs.declared.word.Placed.{Placed}
use Rattle.hv_syntax.specs.Views.{constant_view}
use Rattle.hv_syntax.specs.Values.{WordAt, word_at, Literal, literal, Term, atom_with}
use Rattle.hv_reading.specs.Literals.{are_constants}
use Rattle.hv_reading.specs.inside.Terms.{term_of, atom_of}
use Rattle.hv_reading.specs.inside.Lists.{behind_not}
use Rattle.hv_reading.specs.declared.word.Head.TheVariants as word_heads
use Rattle.hv_reading.specs.Words.{head_of}
use Rattle.hv_reading.specs.inside.Literals.{literal_by, literal_of, if_ground}
use Rattle.hv_reading.specs.Sections.{headed, is_head, occurs}
use Rattle.hv_reading.specs.inside.Sections.{refused, section_of, sections_from, sections_of}
use Rattle.hv_reading.specs.declared.section.Standing.{Standing}
use Rattle.hv_syntax.specs.Problems.{ProblemSection}
use Rattle.hv_reading.specs.Standings.{problem_standing}
use Rattle.hv_reading.specs.inside.Problems.{problem_section_by, problem_section}
use Rattle.hv_reading.specs.inside.Streams.{head_word, heads, has_head, IsBegun, IsSectionRead, IsLiteralRead}
use Rattle.hv_reading.specs.declared.section.Standing.TheVariants as standings
use Rattle.hv_reading.specs.declared.fault.SyntaxKind.{SyntaxKind}
use Rattle.hv_reading.proofs.Lists.{behind_both}

pub here_add : (t : Tree) (r : Rest) → here (add t r) ≡ more t (here r)
here_add t (last ts) = refl
here_add t (lost ts) = refl
here_add t (upto ts e r) = refl

pub ended_add : (t : Tree) (r : Rest) → ended (add t r) ≡ ended r
ended_add t (last ts) = refl
ended_add t (lost ts) = refl
ended_add t (upto ts e r) = refl

pub ended_none : (r : Rest) → here r ≡ none → r ≡ ended r
ended_none (last ts) e = ap last e
ended_none (lost ts) e = ap lost e
ended_none (upto ts p r) e = ap (λ x. upto x p r) e

module _ {A X : Type 0} (f : Tree → Option A) (view : X → A) (t : Tree) (r r' : Rest) (first : r ≡ add t r') (all : Option (List A)) where
  pub read_one_next : (front : List A) (a : A) → f t ≡ Some a → behind front (every f (here r)) ≡ all
      → behind (front ++ a ∷ []) (every f (here r')) ≡ all
  read_one_next front a read so_far =
      let one : behind front (every f (here r)) ≡ behind front (both ◌∷◌ (Some a) (every f (here r'))) =
      ap (λ z. behind front (every f z)) (ap here first ∙ here_add t r') ∙ ap (λ z. behind front (both ◌∷◌ z (every f (here r')))) read in
      sym (behind_both f view front a _) ∙ sym one ∙ so_far

  pub read_next : (front : List X) (x : X) → f t ≡ Some (view x) → behind (map view front) (every f (here r)) ≡ all
      → behind (map view (front ++ x ∷ [])) (every f (here r')) ≡ all
  read_next front x read so_far =
      ap (λ xs. behind xs (every f (here r'))) (map-append view front (x ∷ [])) ∙ read_one_next (map view front) (view x) read so_far

  pub read_no_next : (front : List A) → f t ≡ None → behind front (every f (here r)) ≡ all → all ≡ None
  read_no_next front read so_far =
      let one : behind front (every f (here r)) ≡ None = ap (λ z. behind front (every f z)) (ap here first ∙ here_add t r') ∙ ap (λ z. behind front (both ◌∷◌ z (every f (here r')))) read in
      sym so_far ∙ one

pub read_up_to : {A : Type 0} (f : Tree → Option A) (r : Rest) (front : List A) (all : Option (List A)) → here r ≡ none → behind front (every f (here r)) ≡ all → all ≡ Some front
read_up_to f r front all e so_far = sym so_far ∙ ap (λ z. behind front (every f z)) e ∙ ap Some (append-nil front)

heads_behind : (ts : List Tree) (t : Tree) (w : List ℕ) → head_word (headed t) ≡ w ∷ [] → heads (ts ++ t ∷ []) ≡ heads ts ++ w ∷ []
heads_behind [] t w e = append-nil (head_word (headed t)) ∙ e
heads_behind (u ∷ ts) t w e = ap (λ z. head_word (headed u) ++ z) (heads_behind ts t w e) ∙ sym (append_assoc (head_word (headed u)) (heads ts) (w ∷ []))

occurs_by : (v : List ℕ) (h : Option (List ℕ × Trees)) (ws : List (List ℕ)) → (is_head v h || has_head v ws) ≡ has_head v (head_word h ++ ws)
occurs_by v None ws = refl
occurs_by v (Some (w, ts)) ws = refl

occurs_among : (v : List ℕ) (ts : List Tree) → occurs v ts ≡ has_head v (heads ts)
occurs_among v [] = refl
occurs_among v (t ∷ ts) = ap (λ z. is_head v (headed t) || z) (occurs_among v ts) ∙ occurs_by v (headed t) (heads ts)

module _ {S : Type 0} (standing : List ℕ → Standing) (spelled : List ℕ → Span → Trees → Option S) where
  is_section_of : (t : Tree) (w : List ℕ) (us : Trees) (x : S) (hs : List (List ℕ)) → headed t ≡ Some (w, us) → refused (standing w) (has_head w hs) ≡ None
      → spelled w (place_of t) us ≡ Some x → (ts : List Tree) → heads ts ≡ hs → section_of standing spelled ts t ≡ Ok x
  is_section_of t w us x hs h fresh by ts e =
      let same : occurs w ts ≡ has_head w hs = occurs_among w ts ∙ ap (has_head w) e in
      rw (h, same, fresh, by) refl

  -- a section that was read by its expression
  pub listed_read : (hs : List (List ℕ)) (t : Tree) (from after : Rest) (w : List ℕ) (us : Trees) (x : S) (s : Span) (st : Standing) → from ≡ add t after → Some (w, us) ≡ headed t
      → st ≡ standing w → refused st (has_head w hs) ≡ None → s ≡ place_of t → spelled w s us ≡ Some x → IsSectionRead (section_of standing spelled) hs from x w after
  listed_read hs t from after w us x s st f h k fresh p by =
      record { tree = t; first = f; head = ap head_word (sym h); is_section = is_section_of t w us x hs (sym h) (ap (λ z. refused z (has_head w hs)) (sym k) ∙ fresh) (ap (λ z. spelled w z us) (sym p) ∙ by) }

-- a section of problems that stands once, and was read one part at a time
pub once_read : (x : ProblemSection) (hs : List (List ℕ)) (start place : Span) (w : List ℕ) (from m e after : Rest) (p : ℕ) → from ≡ enclose start (add (word w place) m)
    → problem_standing w ≡ standings.Once → refused standings.Once (has_head w hs) ≡ None → ((s : Span) → problem_section_by w s (here m) ≡ Some x)
    → ended e ≡ ended m → e ≡ upto none p after → IsSectionRead problem_section hs from x w after
once_read x hs start place w from (last us) e after p f o fresh by k q = absurd (never (sym k ∙ ap ended q))
  where
    never : last none ≡ upto none p after → ⊥
    never z = cc
once_read x hs start place w from (lost us) e after p f o fresh by k q = absurd (never (sym k ∙ ap ended q))
  where
    never : lost none ≡ upto none p after → ⊥
    never z = cc
once_read x hs start place w from (upto us n b) e after p f o fresh by k q =
    let same : upto none n b ≡ upto none p after = sym k ∙ ap ended q in
    let behind_it : b ≡ after = cc in
    let t : Tree = list (more (word w place) us) (record { start = start.start; past = n }) in
    let may : refused (problem_standing w) (has_head w hs) ≡ None = ap (λ z. refused z (has_head w hs)) o ∙ fresh in
    record {
      tree = t;
      first = f ∙ ap (add t) behind_it;
      head = refl;
      is_section = is_section_of problem_standing problem_section_by t w us x hs refl may (by (place_of t));
    }

module _ {V S : Type 0} (section : List Tree → Tree → Result S (SyntaxKind × Span)) (add_one : V → S → V) where
  -- one more section
  pub section_more : (hs : List (List ℕ)) (from after : Rest) (x : S) (w : List ℕ) (known : V) (all : Result V (SyntaxKind × Span)) → IsSectionRead section hs from x w after
      → (ts : List Tree) × (heads ts ≡ hs) × (sections_from section add_one known ts (here from) ≡ all)
      → (ts : List Tree) × (heads ts ≡ hs ++ w ∷ []) × (sections_from section add_one (add_one known x) ts (here after) ≡ all)
  section_more hs from after x w known all r (ts, e, g) =
      let one : sections_from section add_one known ts (here from) ≡ sections_from section add_one known ts (more r.tree (here after)) = ap (λ z. sections_from section add_one known ts z) (ap here r.first ∙ here_add r.tree after) in
      let two : sections_from section add_one known ts (more r.tree (here after)) ≡ sections_from section add_one (add_one known x) (ts ++ r.tree ∷ []) (here after) = rw (r.is_section ts e) refl in
      (ts ++ r.tree ∷ [], heads_behind ts r.tree w r.head ∙ ap (λ z. z ++ w ∷ []) e, sym two ∙ sym one ∙ g)

pub section_ended : {S : Type 0} (section : List Tree → Tree → Result S (SyntaxKind × Span)) (hs : List (List ℕ)) (from after : Rest) (x : S) (w : List ℕ) (all : Rest) → IsSectionRead section hs from x w after
    → ended from ≡ all → ended after ≡ all
section_ended section hs from after x w all r e = sym (ended_add r.tree after) ∙ ap ended (sym r.first) ∙ e

-- what a whole text defines, whose sections stand up to here
module _ (v : List ℕ) (from : Rest) (start : Span) (n : WordAt) (p : ℕ) where
  abbrev place : Span
  place = record { start = start.start; past = p }

  -- the one list of the text
  whole_list : (third e : Rest) (b : IsBegun v from start n third) → e ≡ ended third → e ≡ upto none p (last none)
      → from ≡ last (more (list (more b.define (more b.title (here third))) place) none)
  whole_list (last us) e b m o = absurd (never (sym m ∙ o))
    where
      never : last none ≡ upto none p (last none) → ⊥
      never z = cc
  whole_list (lost us) e b m o = absurd (never (sym m ∙ o))
    where
      never : lost none ≡ upto none p (last none) → ⊥
      never z = cc
  whole_list (upto us z c) e b m o =
      let same : upto none z c ≡ upto none p (last none) = sym m ∙ o in
      let ends : z ≡ p = cc in
      let tail : c ≡ last none = cc in
      rw (ends, tail) at b.first

  pub whole_read : (third e : Rest) → IsBegun v from start n third → e ≡ ended third → e ≡ upto none p (last none) → from ≡ last (here from)
  whole_read third e b m o = let w = whole_list third e b m o in w ∙ ap last (sym (ap here w))

  pub definition_read : (third e : Rest) → IsBegun v from start n third → e ≡ ended third → e ≡ upto none p (last none)
      → sections_of v (here from) ≡ Some (n, here third, record { start = start.start; past = p })
  definition_read third e b m o = rw (ap here (whole_list third e b m o), b.is_define, sym b.has_name) refl

-- words as terms are names
pub are_constant : (ws : List Placed) → are_constants (map constant_view ws) ≡ true
are_constant [] = refl
are_constant (w ∷ ws) = are_constant ws

-- a symbol and names in a list are a literal
pub fact_read : (start place : Span) (w : List ℕ) (from m e after : Rest) (p : ℕ) (xs : List Term) → from ≡ enclose start (add (word w place) m) → head_of w ≡ word_heads.Symbol
    → behind xs (every term_of (here e)) ≡ every term_of (here m) → are_constants xs ≡ true → ended e ≡ ended m → e ≡ upto none p after
    → IsLiteralRead from (literal true (atom_with (word_at w place) xs)) after
fact_read start at w from (last us) e after p xs f h n g k q = absurd (never (ap ended (sym q) ∙ k))
  where
    never : upto none p after ≡ last none → ⊥
    never z = cc
fact_read start at w from (lost us) e after p xs f h n g k q = absurd (never (ap ended (sym q) ∙ k))
  where
    never : upto none p after ≡ lost none → ⊥
    never z = cc
fact_read start at w from (upto us z b) e after p xs f h n g k q =
    let same : upto none p after ≡ upto none z b = ap ended (sym q) ∙ k in
    let behind_it : b ≡ after = cc in
    let terms : every term_of us ≡ Some xs = sym n ∙ ap (λ x. behind xs (every term_of (here x))) q ∙ ap Some (append-nil xs) in
    let t : Tree = list (more (word w at) us) (record { start = start.start; past = z }) in
    let atom : atom_of t ≡ Some (atom_with (word_at w at) xs) = rw (h, terms) refl in
    let positive : literal_of t ≡ option_map (literal true) (atom_of t) = ap (λ x. literal_by (behind_not x us) t) h in
    let l : Literal = literal true (atom_with (word_at w at) xs) in
    let is_ground : if_ground l ≡ Some l = rw g refl in
    record { tree = t; first = f ∙ ap (add t) behind_it; spells = ap (option_and_then if_ground) (positive ∙ ap (option_map (literal true)) atom) ∙ is_ground }
