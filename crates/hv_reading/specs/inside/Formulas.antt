-- How the code reads: the grammar of formulas.
use Rattle.std.specs.Prelude.{nat_le, length, List, [], ◌∷◌, Option, Some, None, option_map, option_and_then, if◌then◌else◌}
use Rattle.hv_text.specs.Trees.{Tree, word, list, Trees, none, more}
use Rattle.hv_reading.specs.declared.word.Head.{Head}
use Rattle.hv_reading.specs.declared.word.Head.TheVariants as heads
use Rattle.hv_reading.specs.Words.{head_of}
use Rattle.hv_reading.specs.inside.Reading.{both, every, all_some, tuple, two}
use Rattle.hv_syntax.specs.Values.{WordAt, word_at, atom_with, Variable, Formula, holds, and, or, not, imply, forall, exists, equal, no_formulas, formulas_of}
use Rattle.hv_reading.specs.inside.Terms.{term_of}
use Rattle.hv_reading.specs.inside.TypedLists.{typed_variables_of}

-- at most 16 variables
abbrev pub few : List Variable → Option (List Variable)
few vs = if nat_le (length vs) 16 then Some vs else None

-- the list of a quantifier: `(typed(var))`, at most 16 of them
abbrev pub variables_of : Tree → Option (List Variable)
variables_of (word w s) = None
variables_of (list ts s) = option_and_then few (typed_variables_of ts)

-- all of these hold
abbrev pub and_all : List Formula → Formula
and_all fs = and (formulas_of fs)

-- one of these holds
abbrev pub or_all : List Formula → Formula
or_all fs = or (formulas_of fs)

-- one formula behind `not`, where ps is what the members spell as formulas
abbrev pub negation : List (Option Formula) → Option Formula
negation (p ∷ []) = option_map not p
negation _ = None

-- two formulas behind `imply`
abbrev pub implication : List (Option Formula) → Option Formula
implication (p ∷ q ∷ []) = both imply p q
implication _ = None

-- variables and a formula or an effect behind a quantifier
abbrev pub quantified : {A : Type 0} → Trees → List (Option A) → Option (List Variable × A)
quantified (more vs ts) (v ∷ p ∷ []) = both tuple (variables_of vs) p
quantified _ _ = None

-- two terms, one beside the other
abbrev pub equal_terms : Option (Tree × Tree) → Option Formula
equal_terms None = None
equal_terms (Some (s, t)) = both equal (term_of s) (term_of t)

-- two terms behind `=`
abbrev pub equality : Trees → Option Formula
equality ts = equal_terms (two ts)

-- a list that a word heads: ts are the members behind it, and ps what these spell as formulas
abbrev pub formula_by : Head → WordAt → Trees → List (Option Formula) → Option Formula
formula_by heads.And w ts ps = option_map and_all (all_some ps)
formula_by heads.Or w ts ps = option_map or_all (all_some ps)
formula_by heads.Not w ts ps = negation ps
formula_by heads.Imply w ts ps = implication ps
formula_by heads.Forall w ts ps = option_map (λ p. forall p.0 p.1) (quantified ts ps)
formula_by heads.Exists w ts ps = option_map (λ p. exists p.0 p.1) (quantified ts ps)
formula_by heads.Equal w ts ps = equality ts
formula_by heads.Symbol w ts ps = option_map (λ xs. holds (atom_with w xs)) (every term_of ts)
formula_by heads.When w ts ps = None
formula_by heads.Other w ts ps = None

-- the formula that an expression spells
abbrev mutual
  pub formula_of : Tree → Option Formula
  formula_of (word w s) = None
  formula_of (list ts s) = formula_among ts

  pub formula_among : Trees → Option Formula
  formula_among none = Some (and no_formulas)
  formula_among (more (word w s) ts) = formula_by (head_of w) (word_at w s) ts (each_formula ts)
  formula_among (more (list us s) ts) = None

  -- what each expression spells as a formula
  pub each_formula : Trees → List (Option Formula)
  each_formula none = []
  each_formula (more t ts) = formula_of t ∷ each_formula ts
