-- The canonical expressions of formulas and literals are read as what they are of, places aside.
use Rattle.std.proofs.Common.{◌≡◌, ℕ, Bool, true, false, List, [], ◌∷◌, length, map, nat_le, Option, Some, None, option_map, refl, sym, ap, ◌∙◌, if◌then◌else◌}
use Rattle.std.proofs.lemmas.List.{length-map}
use Rattle.std.specs.Prelude.{IfSome, option_and_then}
use Rattle.hv_lists.proofs.Options.{not_some}
use Rattle.hv_text.specs.Trees.{Tree, word, list, Trees, none, more}
use Rattle.hv_text.specs.declared.span.Span.{Span}
use Rattle.hv_reading.specs.declared.word.Head.{Head}
use Rattle.hv_reading.specs.declared.word.Head.TheVariants as heads
use Rattle.hv_syntax.specs.Values.{word_at, Term, constant, variable, Atom, atom_with, Variable, Formula, formulas_of, holds, and, or, not, imply, forall, exists, equal, Literal, literal}
use Rattle.hv_reading.specs.Words.{head_of}
use Rattle.hv_reading.specs.inside.Reading.{every, all_some, tuple}
use Rattle.hv_reading.specs.inside.Terms.{term_of, atom_of}
use Rattle.hv_reading.specs.inside.TypedLists.{typed_variables_of}
use Rattle.hv_reading.specs.inside.Lists.{negated}
use Rattle.hv_reading.specs.inside.Formulas.{few, variables_of, and_all, or_all, negation, implication, quantified, equality, formula_by, formula_of, formula_among, each_formula}
use Rattle.hv_reading.specs.Literals.{is_constant, are_constants}
use Rattle.hv_reading.specs.inside.Literals.{literal_by, literal_of, if_ground, ground_literal_of}
use Rattle.hv_reading.specs.Canonical.{the_list, term_expression, atom_expression, variable_members, formula_expression, formula_expressions, literal_expression}
use Rattle.hv_reading.specs.Bare.{bare_term, bare_atom, bare_variable, bare_formula, bare_formulas, bare_literal}
use Rattle.hv_reading.proofs.Again.{if_map, if_both, IsReadAgain, AreReadAgain, term_again, terms_again, atom_again, AreVariablesAgain, typed_variables_again}

abbrev pub IsFormulaAgain : Formula → Type 0
IsFormulaAgain f = formula_of (formula_expression f) ≡ Some (bare_formula f)

abbrev AreFormulasAgain : List Formula → Type 0
AreFormulasAgain fs = all_some (each_formula (formula_expressions (formulas_of fs))) ≡ Some (map bare_formula fs)

abbrev AllAgain : List (Option Formula) → Type 0
AllAgain [] = Unit {0}
AllAgain (p ∷ ps) = IfSome p IsFormulaAgain × AllAgain ps

bare_all : (fs : List Formula) → bare_formulas (formulas_of fs) ≡ formulas_of (map bare_formula fs)
bare_all [] = refl
bare_all (f ∷ fs) = rw (bare_all fs) refl

formulas_more : (f : Formula) (fs : List Formula) → IsFormulaAgain f → AreFormulasAgain fs → AreFormulasAgain (f ∷ fs)
formulas_more f fs h k = rw (h, k) refl

all_again : (ps : List (Option Formula)) → AllAgain ps → IfSome (all_some ps) AreFormulasAgain
all_again [] h = refl
all_again (p ∷ ps) h = if_both ◌∷◌ IsFormulaAgain AreFormulasAgain AreFormulasAgain formulas_more p (all_some ps) h.0 (all_again ps h.1)

and_from : (fs : List Formula) → AreFormulasAgain fs → IsFormulaAgain (and_all fs)
and_from [] h = refl
and_from (f ∷ fs) h = ap (option_map and_all) h ∙ ap (λ x. Some (and x)) (sym (bare_all (f ∷ fs)))

or_from : (fs : List Formula) → AreFormulasAgain fs → IsFormulaAgain (or_all fs)
or_from fs h = ap (option_map or_all) h ∙ ap (λ x. Some (or x)) (sym (bare_all fs))

not_from : (f : Formula) → IsFormulaAgain f → IsFormulaAgain (not f)
not_from f h = rw h refl

imply_from : (f g : Formula) → IsFormulaAgain f → IsFormulaAgain g → IsFormulaAgain (imply f g)
imply_from f g h k = rw (h, k) refl

equal_from : (x y : Term) → IsReadAgain term_of term_expression bare_term x → IsReadAgain term_of term_expression bare_term y → IsFormulaAgain (equal x y)
equal_from x y h k = rw (h, k) refl

-- the list of a quantifier
abbrev pub IsListAgain : List Variable → Type 0
IsListAgain vs = variables_of (the_list (variable_members vs)) ≡ Some (map bare_variable vs)

few_from : (vs : List Variable) (b : Bool) → nat_le (length vs) 16 ≡ b → AreVariablesAgain vs → IfSome (if b then Some vs else None) IsListAgain
few_from vs true e h =
    ap (option_and_then few) h ∙ ap (λ n. if nat_le n 16 then Some (map bare_variable vs) else None) (length-map vs bare_variable) ∙ ap (λ b. if b then Some (map bare_variable vs) else None) e
few_from vs false e h = tt

few_again : (o : Option (List Variable)) → IfSome o AreVariablesAgain → IfSome (option_and_then few o) IsListAgain
few_again None h = tt
few_again (Some vs) h = few_from vs (nat_le (length vs) 16) refl h

pub variables_again : (t : Tree) → IfSome (variables_of t) IsListAgain
variables_again (word w s) = tt
variables_again (list ts s) = few_again (typed_variables_of ts) (typed_variables_again ts)

abbrev IsPairAgain : List Variable × Formula → Type 0
IsPairAgain p = IsListAgain p.0 × IsFormulaAgain p.1

quantified_again : (ts : Trees) (ps : List (Option Formula)) → AllAgain ps → IfSome (quantified ts ps) IsPairAgain
quantified_again none ps h = tt
quantified_again (more t ts) [] h = tt
quantified_again (more t ts) (p ∷ []) h = tt
quantified_again (more t ts) (p ∷ q ∷ []) h = if_both tuple IsListAgain IsFormulaAgain IsPairAgain (λ vs f k l. (k, l)) (variables_of t) q (variables_again t) h.1.0
quantified_again (more t ts) (p ∷ q ∷ r ∷ ps) h = tt

forall_from : (p : List Variable × Formula) → IsPairAgain p → IsFormulaAgain (forall p.0 p.1)
forall_from p h = rw (h.0, h.1) refl

exists_from : (p : List Variable × Formula) → IsPairAgain p → IsFormulaAgain (exists p.0 p.1)
exists_from p h = rw (h.0, h.1) refl

negation_again : (ps : List (Option Formula)) → AllAgain ps → IfSome (negation ps) IsFormulaAgain
negation_again [] h = tt
negation_again (p ∷ []) h = if_map not IsFormulaAgain IsFormulaAgain not_from p h.0
negation_again (p ∷ q ∷ ps) h = tt

implication_again : (ps : List (Option Formula)) → AllAgain ps → IfSome (implication ps) IsFormulaAgain
implication_again [] h = tt
implication_again (p ∷ []) h = tt
implication_again (p ∷ q ∷ []) h = if_both imply IsFormulaAgain IsFormulaAgain IsFormulaAgain imply_from p q h.0 h.1.0
implication_again (p ∷ q ∷ r ∷ ps) h = tt

equality_again : (ts : Trees) → IfSome (equality ts) IsFormulaAgain
equality_again none = tt
equality_again (more s none) = tt
equality_again (more s (more t none)) =
    if_both equal (IsReadAgain term_of term_expression bare_term) (IsReadAgain term_of term_expression bare_term) IsFormulaAgain equal_from (term_of s) (term_of t) (term_again s) (term_again t)
equality_again (more s (more t (more u ts))) = tt

holds_from : (w : List ℕ) (s : Span) → head_of w ≡ heads.Symbol → (xs : List Term) → AreReadAgain term_of term_expression bare_term xs → IsFormulaAgain (holds (atom_with (word_at w s) xs))
holds_from w s e xs h = rw (e, h) refl

by_again : (h : Head) (w : List ℕ) (s : Span) → head_of w ≡ h → (ts : Trees) (ps : List (Option Formula)) → AllAgain ps → IfSome (formula_by h (word_at w s) ts ps) IsFormulaAgain
by_again heads.And w s e ts ps k = if_map and_all AreFormulasAgain IsFormulaAgain and_from (all_some ps) (all_again ps k)
by_again heads.Or w s e ts ps k = if_map or_all AreFormulasAgain IsFormulaAgain or_from (all_some ps) (all_again ps k)
by_again heads.Not w s e ts ps k = negation_again ps k
by_again heads.Imply w s e ts ps k = implication_again ps k
by_again heads.Forall w s e ts ps k = if_map (λ p. forall p.0 p.1) IsPairAgain IsFormulaAgain forall_from (quantified ts ps) (quantified_again ts ps k)
by_again heads.Exists w s e ts ps k = if_map (λ p. exists p.0 p.1) IsPairAgain IsFormulaAgain exists_from (quantified ts ps) (quantified_again ts ps k)
by_again heads.Equal w s e ts ps k = equality_again ts
by_again heads.Symbol w s e ts ps k =
    if_map (λ xs. holds (atom_with (word_at w s) xs)) (AreReadAgain term_of term_expression bare_term) IsFormulaAgain (holds_from w s e) (every term_of ts) (terms_again ts)
by_again heads.When w s e ts ps k = tt
by_again heads.Other w s e ts ps k = tt

mutual
  formula_read : (t : Tree) → IfSome (formula_of t) IsFormulaAgain
  formula_read (word w s) = tt
  formula_read (list ts s) = among_read ts

  among_read : (ts : Trees) → IfSome (formula_among ts) IsFormulaAgain
  among_read none = refl
  among_read (more (word w s) ts) = by_again (head_of w) w s refl ts (each_formula ts) (each_read ts)
  among_read (more (list us s) ts) = tt

  each_read : (ts : Trees) → AllAgain (each_formula ts)
  each_read none = tt
  each_read (more t ts) = (formula_read t, each_read ts)

pub formula_again : (t : Tree) → IfSome (formula_of t) IsFormulaAgain
formula_again t = formula_read t

abbrev pub IsLiteralAgain : Literal → Type 0
IsLiteralAgain l = literal_of (literal_expression l) ≡ Some (bare_literal l)

-- the expression of an atom is no negation
clash : (a : Atom) → IsReadAgain atom_of atom_expression bare_atom a → head_of a.symbol.text ≡ heads.Not → ⊥
clash a k e =
    let none_read : atom_of (atom_expression a) ≡ None = rw e refl in
    not_some (bare_atom a) (sym none_read ∙ k)

atom_stands : (a : Atom) → IsReadAgain atom_of atom_expression bare_atom a → (h : Head) → head_of a.symbol.text ≡ h → negated (atom_expression a) ≡ None
atom_stands a k heads.Symbol e = rw e refl
atom_stands a k heads.And e = rw e refl
atom_stands a k heads.Or e = rw e refl
atom_stands a k heads.Not e = absurd (clash a k e)
atom_stands a k heads.Imply e = rw e refl
atom_stands a k heads.Forall e = rw e refl
atom_stands a k heads.Exists e = rw e refl
atom_stands a k heads.When e = rw e refl
atom_stands a k heads.Equal e = rw e refl
atom_stands a k heads.Other e = rw e refl

positive_from : (a : Atom) → IsReadAgain atom_of atom_expression bare_atom a → IsLiteralAgain (literal true a)
positive_from a h = rw (atom_stands a h (head_of a.symbol.text) refl, h) refl

negative_from : (a : Atom) → IsReadAgain atom_of atom_expression bare_atom a → IsLiteralAgain (literal false a)
negative_from a h = rw h refl

literal_by_again : (o : Option Tree) (e : Tree) → IfSome (literal_by o e) IsLiteralAgain
literal_by_again (Some t) e = if_map (literal false) (IsReadAgain atom_of atom_expression bare_atom) IsLiteralAgain negative_from (atom_of t) (atom_again t)
literal_by_again None e = if_map (literal true) (IsReadAgain atom_of atom_expression bare_atom) IsLiteralAgain positive_from (atom_of e) (atom_again e)

pub literal_again : (e : Tree) → IfSome (literal_of e) IsLiteralAgain
literal_again e = literal_by_again (negated e) e

-- literals whose terms are names
abbrev pub IsGroundAgain : Literal → Type 0
IsGroundAgain l = ground_literal_of (literal_expression l) ≡ Some (bare_literal l)

bare_constant : (x : Term) → is_constant (bare_term x) ≡ is_constant x
bare_constant (constant w) = refl
bare_constant (variable w) = refl

bare_constants : (xs : List Term) → are_constants (map bare_term xs) ≡ are_constants xs
bare_constants [] = refl
bare_constants (x ∷ xs) = rw (bare_constant x, bare_constants xs) refl

ground_from : (l : Literal) (b : Bool) → are_constants l.atom.terms ≡ b → IsLiteralAgain l → IfSome (if b then Some l else None) IsGroundAgain
ground_from l true e h =
    ap (option_and_then if_ground) h ∙ ap (λ b. if b then Some (bare_literal l) else None) (bare_constants l.atom.terms ∙ e)
ground_from l false e h = tt

ground_by : (o : Option Literal) → IfSome o IsLiteralAgain → IfSome (option_and_then if_ground o) IsGroundAgain
ground_by None h = tt
ground_by (Some l) h = ground_from l (are_constants l.atom.terms) refl h

pub ground_literal_again : (e : Tree) → IfSome (ground_literal_of e) IsGroundAgain
ground_literal_again e = ground_by (literal_of e) (literal_again e)
