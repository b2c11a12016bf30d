-- What expressions say has canonical expressions whose words are in lower case and which nest no deeper, where theirs are so and do: words, terms, typed lists, formulas.
use Rattle.std.proofs.Common.{◌≡◌, ◌≤◌, ℕ, zero, suc, true, List, [], ◌∷◌, ◌++◌, refl, arith}
use Rattle.hv_text.specs.Bytes.{is_word, lower}
use Rattle.hv_text.specs.Trees.{Tree, word, list, Trees, none, more}
use Rattle.hv_text.specs.Shapes.{IsTidy, AreTidy, depth, depth_all}
use Rattle.hv_reading.specs.declared.word.Sort.{Sort}
use Rattle.hv_reading.specs.declared.word.Sort.TheVariants as sorts
use Rattle.hv_syntax.specs.Values.{WordAt, Term, Atom, TypeOf, no_type, TypedBy, Typed, Variable, Formula, Formulas}
use Rattle.hv_reading.specs.TypedLists.{with_type}
use Rattle.hv_reading.specs.Spellings.{SpellsWord, a_word, SpellsSymbol, a_symbol, SpellsTerm, a_name, a_variable, SpellEach, no_more, one_more, SpellsList, none_of_them, one_of_them, all_of_them, SpellsAtom, an_atom, join, SpellsTypeName, a_type_name, SpellsType, one_type, either_type, SpellsTypedBy, without_type, a_group, SpellsTyped, SpellsTypedVariables, SpellsVariables, variables, SpellsFormula, nothing, a_fact, a_conjunction, a_disjunction, a_negation, an_implication, for_all, for_some, an_equality, SpellFormulas, no_members, more_members}
use Rattle.hv_reading.specs.Canonical.{the_list, each, conjunction, term_expression, word_expression, atom_expression, type_name_expression, type_expression, members_by, typed_members, variable_members, formula_expression, formula_expressions}

-- the words of an expression are words in lower case, and it opens no more than so many parentheses at once
abbrev mutual
  pub Fits : Tree → ℕ → Type 0
  Fits (word w s) n = (is_word w ≡ true) × (lower w ≡ w)
  Fits (list ts s) zero = ⊥
  Fits (list ts s) (suc n) = AllFit ts n

  pub AllFit : Trees → ℕ → Type 0
  AllFit none n = Unit {0}
  AllFit (more t ts) n = Fits t n × AllFit ts n

-- it is tidy and nests no deeper, and the other way round
mutual
  pub is_tidy : (t : Tree) (n : ℕ) → Fits t n → IsTidy t
  is_tidy (word w s) n h = h
  is_tidy (list ts s) zero h = absurd h
  is_tidy (list ts s) (suc n) h = are_tidy ts n h

  pub are_tidy : (ts : Trees) (n : ℕ) → AllFit ts n → AreTidy ts
  are_tidy none n h = tt
  are_tidy (more t ts) n h = (is_tidy t n h.0, are_tidy ts n h.1)

mutual
  pub is_within : (t : Tree) (n : ℕ) → Fits t n → depth t ≤ n
  is_within (word w s) n h = omega arith
  is_within (list ts s) zero h = absurd h
  is_within (list ts s) (suc n) h = let d : depth_all ts ≤ n = are_within ts n h in omega arith

  are_within : (ts : Trees) (n : ℕ) → AllFit ts n → depth_all ts ≤ n
  are_within none n h = omega arith
  are_within (more t ts) n h = let d : depth t ≤ n = is_within t n h.0 in let e : depth_all ts ≤ n = are_within ts n h.1 in omega arith

mutual
  fits : (t : Tree) (n : ℕ) → IsTidy t → depth t ≤ n → Fits t n
  fits (word w s) n h d = h
  fits (list ts s) zero h d = absurd (omega arith)
  fits (list ts s) (suc n) h d = all_fit ts n h (omega arith)

  pub all_fit : (ts : Trees) (n : ℕ) → AreTidy ts → depth_all ts ≤ n → AllFit ts n
  all_fit none n h d = tt
  all_fit (more t ts) n h d = (fits t n h.0 (omega arith), all_fit ts n h.1 (omega arith))

-- what fits has room where there is more
pub fits_more : (t : Tree) (n : ℕ) → Fits t n → Fits t (suc n)
fits_more t n h = let d : depth t ≤ n = is_within t n h in fits t (suc n) (is_tidy t n h) (omega arith)

-- a word of a value is one in lower case
abbrev pub IsTidyText : List ℕ → Type 0
IsTidyText w = (is_word w ≡ true) × (lower w ≡ w)

pub word_tidy : (sort : Sort) (t : Tree) (w : WordAt) → SpellsWord sort t w → IsTidy t → IsTidyText w.text
word_tidy sort _ _ (a_word w s e) h = h

pub symbol_tidy : (t : Tree) (w : WordAt) → SpellsSymbol t w → IsTidy t → IsTidyText w.text
symbol_tidy _ _ (a_symbol w s e) h = h

-- the members of a list
module _ {A : Type 0} (Spells : Tree → A → Type 0) (write : A → Tree) (n : ℕ) (good : (t : Tree) (x : A) → Spells t x → IsTidy t → Fits (write x) n) where
  pub each_fits : (ts : Trees) (xs : List A) → SpellEach Spells ts xs → AreTidy ts → AllFit (each write xs) n
  each_fits _ _ no_more h = tt
  each_fits _ _ (one_more t ts x xs k l) h = (good t x k h.0, each_fits ts xs l h.1)

  pub list_fits : (t : Tree) (xs : List A) → SpellsList Spells t xs → IsTidy t → AllFit (each write xs) n
  list_fits _ _ (none_of_them s) h = tt
  list_fits _ _ (one_of_them t x k) h = (good t x k h, tt)
  list_fits _ _ (all_of_them w p s ts xs e k) h = each_fits ts xs k h.1

-- and where each fits as what says it
module _ {A : Type 0} (Spells : Tree → A → Type 0) (write : A → Tree) (n : ℕ) (good : (t : Tree) (x : A) → Spells t x → Fits t n → Fits (write x) n) where
  pub each_fit : (ts : Trees) (xs : List A) → SpellEach Spells ts xs → AllFit ts n → AllFit (each write xs) n
  each_fit _ _ no_more h = tt
  each_fit _ _ (one_more t ts x xs k l) h = (good t x k h.0, each_fit ts xs l h.1)

pub conjunction_fits : (ts : Trees) (n : ℕ) → AllFit ts n → Fits (conjunction ts) (suc n)
conjunction_fits none n h = tt
conjunction_fits (more t ts) n h = ((refl, refl), h)

join_fits : (ts us : Trees) (n : ℕ) → AllFit (join ts us) n → AllFit ts n × AllFit us n
join_fits none us n h = (tt, h)
join_fits (more t ts) us n h = let k = join_fits ts us n h.1 in ((h.0, k.0), k.1)

module _ (n : ℕ) where
  pub term_fits : (t : Tree) (x : Term) → SpellsTerm t x → IsTidy t → Fits (term_expression x) n
  term_fits _ _ (a_name w s e) h = h
  term_fits _ _ (a_variable w s e) h = h

  pub atom_fits : (t : Tree) (a : Atom) → SpellsAtom t a → IsTidy t → Fits (atom_expression a) (suc n)
  atom_fits _ _ (an_atom w p s ts xs e k) h = (h.0, each_fits SpellsTerm term_expression n term_fits ts xs k h.1)

-- typed lists
module _ {T : Type 0} (Spells : Tree → T → Type 0) (write : T → Tree) (not_written : T) (sort : Sort) (n : ℕ)
    (type_fits : (t : Tree) (m : T) → Spells t m → Fits t n → Fits (write m) n) (not_written_fits : Fits (write not_written) n) where
  -- words of one type
  words_fit : (m : T) → Fits (write m) n → (ts : Trees) (ws : List WordAt) → SpellEach (SpellsWord sort) ts ws → AllFit ts n → AllFit (members_by write (with_type m ws)) n
  words_fit m v _ _ no_more h = tt
  words_fit m v _ _ (one_more u us w ws k l) h = (word_tidy sort u w k (is_tidy u n h.0), ((refl, refl), (v, words_fit m v us ws l h.1)))

  members_append : (xs ys : List (TypedBy T)) → AllFit (members_by write xs) n → AllFit (members_by write ys) n → AllFit (members_by write (xs ++ ys)) n
  members_append [] ys h k = k
  members_append (x ∷ xs) ys h k = (h.0, (h.1.0, (h.1.1.0, members_append xs ys h.1.1.1 k)))

  members_fit : (ts : Trees) (xs : List (TypedBy T)) → SpellsTypedBy Spells not_written sort ts xs → AllFit ts n → AllFit (members_by write xs) n
  members_fit _ _ (without_type ts ws k) h = words_fit not_written not_written_fits ts ws k h
  members_fit _ _ (a_group t ts w ws d p u m us xs k l e v r) h =
      let j = join_fits ts (more (word d p) (more u us)) n h.1 in
      members_append (with_type m (w ∷ ws)) xs (words_fit m (type_fits u m v j.1.1.0) (more t ts) (w ∷ ws) (one_more t ts w ws k l) (h.0, j.0)) (members_fit us xs r j.1.1.1)

module _ (n : ℕ) where
  type_name_fits : (t : Tree) (m : TypeOf) → SpellsTypeName t m → Fits t n → Fits (type_name_expression m) n
  type_name_fits _ _ (a_type_name t m k) h = word_tidy sorts.Name t m k (is_tidy t n h)

  pub typed_fits : (ts : Trees) (xs : List Typed) → SpellsTyped ts xs → AllFit ts n → AllFit (typed_members xs) n
  typed_fits = members_fit SpellsTypeName type_name_expression no_type sorts.Name n type_name_fits (refl, refl)

word_fits : (n : ℕ) (t : Tree) (w : WordAt) → SpellsWord sorts.Name t w → IsTidy t → Fits (word_expression w) n
word_fits n t w k h = word_tidy sorts.Name t w k h

names_fit : (ts : Trees) (ms : List WordAt) (m : WordAt) → SpellEach (SpellsWord sorts.Name) ts ms → (n : ℕ) → IsTidyText m.text → AllFit ts n → Fits (type_expression (m ∷ ms)) (suc n)
names_fit _ _ m no_more n v h = v
names_fit _ _ m (one_more t ts a ms k l) n v h =
    ((refl, refl), (v, each_fits (SpellsWord sorts.Name) word_expression n (word_fits n) (more t ts) (a ∷ ms) (one_more t ts a ms k l) (are_tidy (more t ts) n h)))

type_fits : (n : ℕ) (t : Tree) (ms : List WordAt) → SpellsType t ms → Fits t n → Fits (type_expression ms) n
type_fits n _ _ (one_type t m k) h = word_tidy sorts.Name t m k (is_tidy t n h)
type_fits zero _ _ (either_type w p s t ts m ms e k l) h = absurd h
type_fits (suc n) _ _ (either_type w p s t ts m ms e k l) h = names_fit ts ms m l n (word_tidy sorts.Name t m k (is_tidy t n h.1.0)) h.1.1

pub typed_variables_fit : (n : ℕ) (ts : Trees) (xs : List Variable) → SpellsTypedVariables ts xs → AllFit ts n → AllFit (variable_members xs) n
typed_variables_fit n = members_fit SpellsType type_expression [] sorts.Variable n (type_fits n) (refl, refl)

-- formulas nest as deep as what says them
pub fact_fits : (t : Tree) (a : Atom) → SpellsAtom t a → (n : ℕ) → Fits t n → Fits (atom_expression a) n
fact_fits _ _ (an_atom w p s ts xs e k) zero h = absurd h
fact_fits _ _ (an_atom w p s ts xs e k) (suc n) h = (h.0, each_fits SpellsTerm term_expression n (term_fits n) ts xs k (are_tidy ts n h.1))

pub variables_fit : (t : Tree) (xs : List Variable) → SpellsVariables t xs → (n : ℕ) → Fits t n → Fits (the_list (variable_members xs)) n
variables_fit _ _ (variables ts s xs k few) zero h = absurd h
variables_fit _ _ (variables ts s xs k few) (suc n) h = typed_variables_fit n ts xs k h

mutual
  pub formula_fits : (t : Tree) (f : Formula) → SpellsFormula t f → (n : ℕ) → Fits t n → Fits (formula_expression f) n
  formula_fits _ _ (nothing s) zero h = absurd h
  formula_fits _ _ (nothing s) (suc n) h = tt
  formula_fits _ _ (a_fact t a k) n h = fact_fits t a k n h
  formula_fits _ _ (a_conjunction w p s ts fs e k) zero h = absurd h
  formula_fits _ _ (a_conjunction w p s ts fs e k) (suc n) h = conjunction_fits (formula_expressions fs) n (formulas_fit ts fs k n h.1)
  formula_fits _ _ (a_disjunction w p s ts fs e k) zero h = absurd h
  formula_fits _ _ (a_disjunction w p s ts fs e k) (suc n) h = ((refl, refl), formulas_fit ts fs k n h.1)
  formula_fits _ _ (a_negation w p s t f e k) zero h = absurd h
  formula_fits _ _ (a_negation w p s t f e k) (suc n) h = ((refl, refl), (formula_fits t f k n h.1.0, tt))
  formula_fits _ _ (an_implication w p s t u f g e k l) zero h = absurd h
  formula_fits _ _ (an_implication w p s t u f g e k l) (suc n) h = ((refl, refl), (formula_fits t f k n h.1.0, (formula_fits u g l n h.1.1.0, tt)))
  formula_fits _ _ (for_all w p s t u xs f e k l) zero h = absurd h
  formula_fits _ _ (for_all w p s t u xs f e k l) (suc n) h = ((refl, refl), (variables_fit t xs k n h.1.0, (formula_fits u f l n h.1.1.0, tt)))
  formula_fits _ _ (for_some w p s t u xs f e k l) zero h = absurd h
  formula_fits _ _ (for_some w p s t u xs f e k l) (suc n) h = ((refl, refl), (variables_fit t xs k n h.1.0, (formula_fits u f l n h.1.1.0, tt)))
  formula_fits _ _ (an_equality w p s t u x y e k l) zero h = absurd h
  formula_fits _ _ (an_equality w p s t u x y e k l) (suc n) h = ((refl, refl), (term_fits n t x k (is_tidy t n h.1.0), (term_fits n u y l (is_tidy u n h.1.1.0), tt)))

  formulas_fit : (ts : Trees) (fs : Formulas) → SpellFormulas ts fs → (n : ℕ) → AllFit ts n → AllFit (formula_expressions fs) n
  formulas_fit _ _ no_members n h = tt
  formulas_fit _ _ (more_members t ts f fs k l) n h = (formula_fits t f k n h.0, formulas_fit ts fs l n h.1)
