-- What the members of a list spell as formulas.
use Rattle.std.proofs.Common.{◌≡◌, List, [], ◌∷◌, length, map, Option, Some, None, refl, ap, rules}
use Rattle.std.specs.Global.{Vec, Box}
use Rattle.hv_text.specs.Trees.{Trees, none, more, tree, trees}
use Rattle.hv_text.specs.declared.sexp.Sexp.{Sexp}
use Rattle.hv_syntax.specs.declared.formula.FormulaText.{FormulaText, And, Or, Not, Imply, Forall, Exists, Equal, the_lemmas}
use Rattle.hv_syntax.specs.declared.term.TermText.{TermText}
use Rattle.hv_syntax.specs.declared.variable.VariableText.{VariableText}
use Rattle.hv_reading.specs.declared.word.Head.{Head}
use Rattle.hv_reading.specs.declared.word.Head.TheVariants as heads
use Rattle.hv_reading.specs.inside.Reading.{both, every, all_some}
use Rattle.hv_syntax.specs.Values.{WordAt, not, imply, forall, exists, equal}
use Rattle.hv_reading.specs.inside.Formulas.{formula_of, each_formula, and_all, or_all, formula_by, negation, implication, quantified, variables_of}
use Rattle.hv_syntax.specs.Views.{formula_view, variable_view, term_view}

pub each_is : (ts : Trees) → all_some (each_formula ts) ≡ every formula_of ts
each_is none = refl
each_is (more t ts) = ap (both ◌∷◌ (formula_of t)) (each_is ts)

pub view-Not : (b : Box FormulaText) → formula_view (Not b) ≡ not (formula_view b.value)
view-Not b = search (rules, the_lemmas)

pub view-Imply : (b c : Box FormulaText) → formula_view (Imply b c) ≡ imply (formula_view b.value) (formula_view c.value)
view-Imply b c = search (rules, the_lemmas)

pub view-Forall : (vs : Vec VariableText) (b : Box FormulaText) → formula_view (Forall vs b) ≡ forall (map variable_view vs.items) (formula_view b.value)
view-Forall vs b = search (rules, the_lemmas)

pub view-Exists : (vs : Vec VariableText) (b : Box FormulaText) → formula_view (Exists vs b) ≡ exists (map variable_view vs.items) (formula_view b.value)
view-Exists vs b = search (rules, the_lemmas)

pub view-And : (v : Vec FormulaText) → formula_view (And v) ≡ and_all (map formula_view v.items)
view-And v = search (rules, the_lemmas)

pub view-Or : (v : Vec FormulaText) → formula_view (Or v) ≡ or_all (map formula_view v.items)
view-Or v = search (rules, the_lemmas)

pub view-Equal : (s t : TermText) → formula_view (Equal s t) ≡ equal (term_view s) (term_view t)
view-Equal s t = search (rules, the_lemmas)

module _ (h : Head) (w : WordAt) (es : List Sexp) where
  pub and_read : (v : Vec FormulaText) → heads.And ≡ h → every formula_of (trees es) ≡ Some (map formula_view v.items)
      → formula_by h w (trees es) (each_formula (trees es)) ≡ Some (formula_view (And v))
  and_read v is read = rw (← is, each_is (trees es), read, view-And v) refl

  pub and_fails : heads.And ≡ h → every formula_of (trees es) ≡ None → formula_by h w (trees es) (each_formula (trees es)) ≡ None
  and_fails is failed = rw (← is, each_is (trees es), failed) refl

  pub or_read : (v : Vec FormulaText) → heads.Or ≡ h → every formula_of (trees es) ≡ Some (map formula_view v.items)
      → formula_by h w (trees es) (each_formula (trees es)) ≡ Some (formula_view (Or v))
  or_read v is read = rw (← is, each_is (trees es), read, view-Or v) refl

  pub or_fails : heads.Or ≡ h → every formula_of (trees es) ≡ None → formula_by h w (trees es) (each_formula (trees es)) ≡ None
  or_fails is failed = rw (← is, each_is (trees es), failed) refl

both_fails : {A B C : Type 0} (f : A → B → C) (p : Option A) (q : Option B) → q ≡ None → both f p q ≡ None
both_fails f None q e = refl
both_fails f (Some g) q e = rw e refl

module _ (es : List Sexp) where
  pub not_read : (e : Sexp) (f : FormulaText) (b : Box FormulaText) → trees es ≡ more (tree e) none
      → formula_of (tree e) ≡ Some (formula_view f) → b.value ≡ f → negation (each_formula (trees es)) ≡ Some (formula_view (Not b))
  not_read e f b one read in_box = rw (one, read, view-Not b, in_box) refl

  pub not_fails : (e : Sexp) → trees es ≡ more (tree e) none → formula_of (tree e) ≡ None → negation (each_formula (trees es)) ≡ None
  not_fails e one failed = rw (one, failed) refl

  pub imply_read : (e f : Sexp) (g k : FormulaText) (b c : Box FormulaText) → trees es ≡ more (tree e) (more (tree f) none)
      → formula_of (tree e) ≡ Some (formula_view g) → b.value ≡ g → formula_of (tree f) ≡ Some (formula_view k) → c.value ≡ k
      → implication (each_formula (trees es)) ≡ Some (formula_view (Imply b c))
  imply_read e f g k b c two read in_b read2 in_c = rw (two, read, read2, view-Imply b c, in_b, in_c) refl

  pub first_fails : (e f : Sexp) → trees es ≡ more (tree e) (more (tree f) none) → formula_of (tree e) ≡ None → implication (each_formula (trees es)) ≡ None
  first_fails e f two failed = rw (two, failed) refl

  pub second_fails : (e f : Sexp) → trees es ≡ more (tree e) (more (tree f) none) → formula_of (tree f) ≡ None → implication (each_formula (trees es)) ≡ None
  second_fails e f two failed = rw two (both_fails imply (formula_of (tree e)) (formula_of (tree f)) failed)

  pub quantified_read : (e f : Sexp) (vs : Vec VariableText) (g : FormulaText) (b : Box FormulaText) → trees es ≡ more (tree e) (more (tree f) none)
      → variables_of (tree e) ≡ Some (map variable_view vs.items) → formula_of (tree f) ≡ Some (formula_view g) → b.value ≡ g
      → quantified (trees es) (each_formula (trees es)) ≡ Some (map variable_view vs.items, formula_view b.value)
  quantified_read e f vs g b two listed read in_b = rw (two, listed, read, in_b) refl

  pub list_fails : (e f : Sexp) → trees es ≡ more (tree e) (more (tree f) none) → variables_of (tree e) ≡ None → quantified (trees es) (each_formula (trees es)) ≡ None
  list_fails e f two failed = rw (two, failed) refl

-- lists of another length
pub not_one : (es : List Sexp) → (length es ≡ 1 → ⊥) → negation (each_formula (trees es)) ≡ None
not_one [] other = refl
not_one (x ∷ []) other = absurd (other refl)
not_one (x ∷ y ∷ es) other = refl

pub not_two : (es : List Sexp) → (length es ≡ 2 → ⊥) → implication (each_formula (trees es)) ≡ None
not_two [] other = refl
not_two (x ∷ []) other = refl
not_two (x ∷ y ∷ []) other = absurd (other refl)
not_two (x ∷ y ∷ z ∷ es) other = refl

pub not_quantified : (es : List Sexp) → (length es ≡ 2 → ⊥) → quantified (trees es) (each_formula (trees es)) ≡ None
not_quantified [] other = refl
not_quantified (x ∷ []) other = refl
not_quantified (x ∷ y ∷ []) other = absurd (other refl)
not_quantified (x ∷ y ∷ z ∷ es) other = refl
