-- What the table spells of literals and networks is what is read.
use Rattle.std.proofs.Common.{◌≡◌, ℕ, Bool, true, false, List, Option, Some, None, ◌↔◌, option_map, refl, sym, ap, ◌∙◌, codes, if◌then◌else◌}
use Rattle.std.specs.Prelude.{IfSome}
use Rattle.hv_text.specs.Trees.{Tree, word, list, Trees, none, more}
use Rattle.hv_text.specs.declared.span.Span.{Span}
use Rattle.hv_reading.specs.declared.word.Head.{Head}
use Rattle.hv_reading.specs.declared.word.Head.TheVariants as heads
use Rattle.hv_reading.specs.Words.{is, head_of, is_the_word}
use Rattle.hv_reading.specs.inside.Words.{symbol_of}
use Rattle.hv_reading.specs.inside.Reading.{both, every, tuple}
use Rattle.hv_syntax.specs.Values.{WordAt, word_at, Term, Atom, atom_with, Literal, literal, Subtask, subtask, Pair, pair, Constraint, constraint}
use Rattle.hv_reading.specs.inside.Terms.{term_of, atom_of}
use Rattle.hv_reading.specs.Lists.{conjuncts, behind_and}
use Rattle.hv_reading.specs.inside.Lists.{behind_not, single, listed, listed_by}
use Rattle.hv_reading.specs.Literals.{are_constants}
use Rattle.hv_reading.specs.inside.Literals.{literal_by, literal_of, if_ground, ground_literal_of}
use Rattle.hv_reading.specs.inside.Networks.{labelled, subtask_by, with_label, subtask_of, pair_by, pair_of, equation_of, constraint_by, constraint_of}
use Rattle.hv_reading.specs.Spellings.{SpellsSymbol, a_symbol, SpellsTerm, a_name, a_variable, SpellEach, no_more, one_more, SpellsList, none_of_them, one_of_them, all_of_them, SpellsAtom, an_atom, SpellsLiteral, a_positive, a_negative, SpellsGround, a_ground, SpellsSubtask, a_task_alone, a_labelled_task, SpellsPair, a_pair_behind, a_pair_between, SpellsEquation, an_equation, SpellsConstraint, they_are_equal, they_differ}
use Rattle.hv_reading.proofs.SpellingLemmas.{same_word, if_map, if_both, if_then, if_weaker, agree, symbol_read, symbol_spelled, term_read, term_spelled, each_read, each_spelled, atom_read, atom_spelled}

-- literals
pub literal_read : (t : Tree) (l : Literal) → SpellsLiteral t l → literal_of t ≡ Some l
literal_read _ _ (a_positive _ _ (an_atom w p s ts xs e h)) =
    rw e (ap (option_map (literal true)) (atom_read (list (more (word w p) ts) s) (atom_with (word_at w p) xs) (an_atom w p s ts xs e h)))
literal_read _ _ (a_negative w p s t a e h) = rw (e, atom_read t a h) refl

alone : (t : Tree) → IfSome (option_map (literal true) (atom_of t)) (SpellsLiteral t)
alone t = if_map (literal true) (SpellsAtom t) (SpellsLiteral t) (λ a h. a_positive t a h) (atom_of t) (atom_spelled t)

literal_if : (h : Head) (w : List ℕ) (p s : Span) (ts : Trees) → head_of w ≡ h
    → IfSome (literal_by (behind_not h ts) (list (more (word w p) ts) s)) (SpellsLiteral (list (more (word w p) ts) s))
literal_if heads.Not w p s none e = alone (list (more (word w p) none) s)
literal_if heads.Not w p s (more t none) e =
    if_map (literal false) (SpellsAtom t) (SpellsLiteral (list (more (word w p) (more t none)) s)) (λ a h. a_negative w p s t a e h) (atom_of t) (atom_spelled t)
literal_if heads.Not w p s (more t (more u ts)) e = alone (list (more (word w p) (more t (more u ts))) s)
literal_if _ w p s ts e = alone (list (more (word w p) ts) s)

pub literal_spelled : (t : Tree) → IfSome (literal_of t) (SpellsLiteral t)
literal_spelled (word w s) = alone (word w s)
literal_spelled (list none s) = alone (list none s)
literal_spelled (list (more (word w p) ts) s) = literal_if (head_of w) w p s ts refl
literal_spelled (list (more (list us p) ts) s) = alone (list (more (list us p) ts) s)

pub literal_table : (t : Tree) (l : Literal) → SpellsLiteral t l ↔ (literal_of t ≡ Some l)
literal_table = agree literal_of SpellsLiteral literal_read literal_spelled

pub ground_read : (t : Tree) (l : Literal) → SpellsGround t l → ground_literal_of t ≡ Some l
ground_read _ _ (a_ground t l h e) = rw (literal_read t l h, e) refl

ground_if : (t : Tree) (l : Literal) (b : Bool) → are_constants l.atom.terms ≡ b → SpellsLiteral t l → IfSome (if b then Some l else None) (SpellsGround t)
ground_if t l true e h = a_ground t l h e
ground_if t l false e h = tt

pub ground_spelled : (t : Tree) → IfSome (ground_literal_of t) (SpellsGround t)
ground_spelled t = if_then if_ground (SpellsLiteral t) (SpellsGround t) (λ l h. ground_if t l (are_constants l.atom.terms) refl h) (literal_of t) (literal_spelled t)

-- lists of parts, none of which stands as `()` or behind `and`
module _ {A : Type 0} (f : Tree → Option A) (Spells : Tree → A → Type 0) (read : (t : Tree) (a : A) → Spells t a → f t ≡ Some a) (spelled : (t : Tree) → IfSome (f t) (Spells t))
    (alone_reads : (t : Tree) (a : A) → Spells t a → conjuncts t ≡ None) where
  pub list_read : (t : Tree) (as' : List A) → SpellsList Spells t as' → listed f t ≡ Some as'
  list_read _ _ (none_of_them s) = refl
  list_read _ _ (one_of_them t a h) = rw (alone_reads t a h, read t a h) refl
  list_read _ _ (all_of_them w p s ts as' e h) = rw (e, each_read f Spells read spelled ts as' h) refl

  one_spelled : (t : Tree) → IfSome (option_map single (f t)) (SpellsList Spells t)
  one_spelled t = if_map single (Spells t) (SpellsList Spells t) (λ a h. one_of_them t a h) (f t) (spelled t)

  behind_spelled : (h : Head) (w : List ℕ) (p s : Span) (ts : Trees) → head_of w ≡ h
      → IfSome (listed_by f (behind_and h ts) (list (more (word w p) ts) s)) (SpellsList Spells (list (more (word w p) ts) s))
  behind_spelled heads.And w p s ts e =
      if_weaker (SpellEach Spells ts) (SpellsList Spells (list (more (word w p) ts) s)) (λ as' h. all_of_them w p s ts as' e h) (every f ts) (each_spelled f Spells read spelled ts)
  behind_spelled _ w p s ts e = one_spelled (list (more (word w p) ts) s)

  pub list_spelled : (t : Tree) → IfSome (listed f t) (SpellsList Spells t)
  list_spelled (word w s) = one_spelled (word w s)
  list_spelled (list none s) = none_of_them s
  list_spelled (list (more (word w p) ts) s) = behind_spelled (head_of w) w p s ts refl
  list_spelled (list (more (list us p) ts) s) = one_spelled (list (more (list us p) ts) s)

atom_alone : (t : Tree) (a : Atom) → SpellsAtom t a → conjuncts t ≡ None
atom_alone _ _ (an_atom w p s ts xs e h) = rw e refl

-- subtasks
abbrev IsWord : Tree → Type 0
IsWord (word w s) = Unit {0}
IsWord (list ts s) = ⊥

term_is_word : (t : Tree) (x : Term) → SpellsTerm t x → IsWord t
term_is_word _ _ (a_name w s e) = tt
term_is_word _ _ (a_variable w s e) = tt

abbrev BeginWithWord : Trees → Type 0
BeginWithWord none = Unit {0}
BeginWithWord (more t ts) = IsWord t

terms_are_words : (ts : Trees) (xs : List Term) → SpellEach SpellsTerm ts xs → BeginWithWord ts
terms_are_words _ _ no_more = tt
terms_are_words _ _ (one_more t ts x xs h k) = term_is_word t x h

not_labelled : (w : List ℕ) (p s : Span) (ts : Trees) → BeginWithWord ts → labelled (list (more (word w p) ts) s) ≡ None
not_labelled w p s none h = refl
not_labelled w p s (more (word v q) none) h = refl
not_labelled w p s (more (list us q) none) h = absurd h
not_labelled w p s (more t (more u ts)) h = refl

atom_members : (t : Tree) (a : Atom) → SpellsAtom t a → labelled t ≡ None
atom_members _ _ (an_atom w p s ts xs e h) = not_labelled w p s ts (terms_are_words ts xs h)

labelled_atom : (t u : Tree) (s : Span) (a : Atom) → SpellsAtom u a → labelled (list (more t (more u none)) s) ≡ Some (t, u)
labelled_atom t _ s _ (an_atom w p r ts xs e h) = refl

subtask_read : (t : Tree) (x : Subtask) → SpellsSubtask t x → subtask_of t ≡ Some x
subtask_read _ _ (a_task_alone t a h) = rw (atom_members t a h, atom_read t a h) refl
subtask_read _ _ (a_labelled_task t l u a s h k) =
    ap (λ o. subtask_by o (list (more t (more u none)) s)) (labelled_atom t u s a k) ∙ rw (symbol_read t l h, atom_read u a k) refl

task_alone : (t : Tree) → IfSome (option_map (subtask None) (atom_of t)) (SpellsSubtask t)
task_alone t = if_map (subtask None) (SpellsAtom t) (SpellsSubtask t) (λ a h. a_task_alone t a h) (atom_of t) (atom_spelled t)

subtask_spelled : (t : Tree) → IfSome (subtask_of t) (SpellsSubtask t)
subtask_spelled (word w s) = task_alone (word w s)
subtask_spelled (list none s) = task_alone (list none s)
subtask_spelled (list (more t none) s) = task_alone (list (more t none) s)
subtask_spelled (list (more t (more (word w p) none)) s) = task_alone (list (more t (more (word w p) none)) s)
subtask_spelled (list (more t (more (list us p) none)) s) =
    if_both with_label (SpellsSymbol t) (SpellsAtom (list us p)) (SpellsSubtask (list (more t (more (list us p) none)) s)) (λ l a h k. a_labelled_task t l (list us p) a s h k)
    (symbol_of t) (atom_of (list us p)) (symbol_spelled t) (atom_spelled (list us p))
subtask_spelled (list (more t (more u (more v ts))) s) = task_alone (list (more t (more u (more v ts))) s)

subtask_alone : (t : Tree) (x : Subtask) → SpellsSubtask t x → conjuncts t ≡ None
subtask_alone _ _ (a_task_alone t a h) = atom_alone t a h
subtask_alone _ _ (a_labelled_task _ _ u a s (a_symbol w p e) k) = rw e refl

pub subtasks_read : (t : Tree) (xs : List Subtask) → SpellsList SpellsSubtask t xs → listed subtask_of t ≡ Some xs
subtasks_read = list_read subtask_of SpellsSubtask subtask_read subtask_spelled subtask_alone

pub subtasks_spelled : (t : Tree) → IfSome (listed subtask_of t) (SpellsList SpellsSubtask t)
subtasks_spelled = list_spelled subtask_of SpellsSubtask subtask_read subtask_spelled subtask_alone

pub subtasks_table : (t : Tree) (xs : List Subtask) → SpellsList SpellsSubtask t xs ↔ (listed subtask_of t ≡ Some xs)
subtasks_table = agree (listed subtask_of) (SpellsList SpellsSubtask) subtasks_read subtasks_spelled

-- pairs: `<` is no symbol
before_head : (w : List ℕ) → is w (codes "<") ≡ true → head_of w ≡ heads.Other
before_head w e = rw (same_word w (codes "<") e) refl

symbol_is_other : (t : Tree) (l : WordAt) → SpellsSymbol t l → is_the_word (codes "<") t ≡ false
symbol_is_other _ _ (a_symbol w p e) = other (is w (codes "<")) refl
  where
    other : (b : Bool) → is w (codes "<") ≡ b → is w (codes "<") ≡ false
    other false h = h
    other true h = let clash : heads.Other ≡ heads.Symbol = sym (before_head w h) ∙ e in cc

pair_read : (t : Tree) (x : Pair) → SpellsPair t x → pair_of t ≡ Some x
pair_read _ _ (a_pair_behind w p s t u l m e h k) = rw (e, symbol_read t l h, symbol_read u m k) refl
pair_read _ _ (a_pair_between w p s t u l m e h k) = rw (symbol_is_other t l h, e, symbol_read t l h, symbol_read u m k) refl

pair_else : (t u v : Tree) (s : Span) (b c : Bool) → is_the_word (codes "<") t ≡ b → is_the_word (codes "<") u ≡ c
    → IfSome (pair_by (if b then Some (u, v) else if c then Some (t, v) else None)) (SpellsPair (list (more t (more u (more v none))) s))
pair_else (word w p) u v s true c e f =
    if_both pair (SpellsSymbol u) (SpellsSymbol v) (SpellsPair (list (more (word w p) (more u (more v none))) s)) (λ l m h k. a_pair_behind w p s u v l m e h k)
    (symbol_of u) (symbol_of v) (symbol_spelled u) (symbol_spelled v)
pair_else (list ts p) u v s true c e f = let clash : false ≡ true = e in cc
pair_else t (word w p) v s false true e f =
    if_both pair (SpellsSymbol t) (SpellsSymbol v) (SpellsPair (list (more t (more (word w p) (more v none))) s)) (λ l m h k. a_pair_between w p s t v l m f h k)
    (symbol_of t) (symbol_of v) (symbol_spelled t) (symbol_spelled v)
pair_else t (list ts p) v s false true e f = let clash : false ≡ true = f in cc
pair_else t u v s false false e f = tt

pair_spelled : (t : Tree) → IfSome (pair_of t) (SpellsPair t)
pair_spelled (word w s) = tt
pair_spelled (list none s) = tt
pair_spelled (list (more t none) s) = tt
pair_spelled (list (more t (more u none)) s) = tt
pair_spelled (list (more t (more u (more v none))) s) = pair_else t u v s (is_the_word (codes "<") t) (is_the_word (codes "<") u) refl refl
pair_spelled (list (more t (more u (more v (more x ts)))) s) = tt

pair_alone : (t : Tree) (x : Pair) → SpellsPair t x → conjuncts t ≡ None
pair_alone _ _ (a_pair_behind w p s t u l m e h k) = rw (before_head w e) refl
pair_alone _ _ (a_pair_between w p s _ u _ m e (a_symbol v q f) k) = rw f refl

pub pairs_read : (t : Tree) (xs : List Pair) → SpellsList SpellsPair t xs → listed pair_of t ≡ Some xs
pairs_read = list_read pair_of SpellsPair pair_read pair_spelled pair_alone

pub pairs_spelled : (t : Tree) → IfSome (listed pair_of t) (SpellsList SpellsPair t)
pairs_spelled = list_spelled pair_of SpellsPair pair_read pair_spelled pair_alone

pub pairs_table : (t : Tree) (xs : List Pair) → SpellsList SpellsPair t xs ↔ (listed pair_of t ≡ Some xs)
pairs_table = agree (listed pair_of) (SpellsList SpellsPair) pairs_read pairs_spelled

-- constraints
equal_head : (w : List ℕ) → is w (codes "=") ≡ true → head_of w ≡ heads.Equal
equal_head w e = rw (same_word w (codes "=") e) refl

equation_read : (t : Tree) (e : Term × Term) → SpellsEquation t e → equation_of t ≡ Some e
equation_read _ _ (an_equation w p s t u x y e h k) = rw (e, term_read t x h, term_read u y k) refl

equation_else : (t u v : Tree) (s : Span) (b : Bool) → is_the_word (codes "=") t ≡ b
    → IfSome (if b then both tuple (term_of u) (term_of v) else None) (SpellsEquation (list (more t (more u (more v none))) s))
equation_else (word w p) u v s true e =
    if_both tuple (SpellsTerm u) (SpellsTerm v) (SpellsEquation (list (more (word w p) (more u (more v none))) s)) (λ x y h k. an_equation w p s u v x y e h k)
    (term_of u) (term_of v) (term_spelled u) (term_spelled v)
equation_else (list ts p) u v s true e = let clash : false ≡ true = e in cc
equation_else t u v s false e = tt

equation_spelled : (t : Tree) → IfSome (equation_of t) (SpellsEquation t)
equation_spelled (word w s) = tt
equation_spelled (list none s) = tt
equation_spelled (list (more t none) s) = tt
equation_spelled (list (more t (more u none)) s) = tt
equation_spelled (list (more t (more u (more v none))) s) = equation_else t u v s (is_the_word (codes "=") t) refl
equation_spelled (list (more t (more u (more v (more x ts)))) s) = tt

constraint_read : (t : Tree) (x : Constraint) → SpellsConstraint t x → constraint_of t ≡ Some x
constraint_read _ _ (they_are_equal _ _ (an_equation w p s t u x y e h k)) =
    rw (equal_head w e) (ap (option_map (constraint true)) (equation_read (list (more (word w p) (more t (more u none))) s) (x, y) (an_equation w p s t u x y e h k)))
constraint_read _ _ (they_differ w p s t x e h) = rw (e, equation_read t x h) refl

equal_alone : (t : Tree) → IfSome (option_map (constraint true) (equation_of t)) (SpellsConstraint t)
equal_alone t = if_map (constraint true) (SpellsEquation t) (SpellsConstraint t) (λ e h. they_are_equal t e h) (equation_of t) (equation_spelled t)

constraint_if : (h : Head) (w : List ℕ) (p s : Span) (ts : Trees) → head_of w ≡ h
    → IfSome (constraint_by (behind_not h ts) (list (more (word w p) ts) s)) (SpellsConstraint (list (more (word w p) ts) s))
constraint_if heads.Not w p s none e = equal_alone (list (more (word w p) none) s)
constraint_if heads.Not w p s (more t none) e =
    if_map (constraint false) (SpellsEquation t) (SpellsConstraint (list (more (word w p) (more t none)) s)) (λ x h. they_differ w p s t x e h) (equation_of t) (equation_spelled t)
constraint_if heads.Not w p s (more t (more u ts)) e = equal_alone (list (more (word w p) (more t (more u ts))) s)
constraint_if _ w p s ts e = equal_alone (list (more (word w p) ts) s)

constraint_spelled : (t : Tree) → IfSome (constraint_of t) (SpellsConstraint t)
constraint_spelled (word w s) = equal_alone (word w s)
constraint_spelled (list none s) = equal_alone (list none s)
constraint_spelled (list (more (word w p) ts) s) = constraint_if (head_of w) w p s ts refl
constraint_spelled (list (more (list us p) ts) s) = equal_alone (list (more (list us p) ts) s)

constraint_alone : (t : Tree) (x : Constraint) → SpellsConstraint t x → conjuncts t ≡ None
constraint_alone _ _ (they_are_equal _ _ (an_equation w p s t u x y e h k)) = rw (equal_head w e) refl
constraint_alone _ _ (they_differ w p s t x e h) = rw e refl

pub constraints_read : (t : Tree) (xs : List Constraint) → SpellsList SpellsConstraint t xs → listed constraint_of t ≡ Some xs
constraints_read = list_read constraint_of SpellsConstraint constraint_read constraint_spelled constraint_alone

pub constraints_spelled : (t : Tree) → IfSome (listed constraint_of t) (SpellsList SpellsConstraint t)
constraints_spelled = list_spelled constraint_of SpellsConstraint constraint_read constraint_spelled constraint_alone

pub constraints_table : (t : Tree) (xs : List Constraint) → SpellsList SpellsConstraint t xs ↔ (listed constraint_of t ≡ Some xs)
constraints_table = agree (listed constraint_of) (SpellsList SpellsConstraint) constraints_read constraints_spelled
