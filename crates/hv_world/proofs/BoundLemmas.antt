-- Where there is no static fault, the numbers of a world are those of what it has.
use Rattle.std.proofs.Common.{◌≡◌, ℕ, suc, ◌+◌, ◌<◌, Bool, true, false, ◌||◌, List, [], ◌∷◌, length, Option, Some, None, is_some, option_map, bytes_eq, codes, if◌then◌else◌, All, refl, ap, sym, subst, ◌∙◌, arith}
use Rattle.std.specs.List.{slice_get}
use Rattle.std.proofs.lemmas.List.{length-map}
use Rattle.std.proofs.lemmas.List.Elements.{All-weaker, All-map}
use Rattle.std.proofs.lemmas.List.Quantifiers.{position-Some}
use Rattle.std.proofs.lemmas.Option.{slice_get_within}
use Rattle.hv_lists.proofs.Places.{first_none}
use Rattle.hv_syntax.specs.Values as text
use Rattle.hv_syntax.specs.Values.{WordAt, Variable, Predicate, Domain, Problem}
use Rattle.hv_world.specs.declared.fault.StaticKind.{StaticKind}
use Rattle.hv_world.specs.declared.fault.StaticKind.TheVariants as kinds
use Rattle.hv_world.specs.declared.fault.Side.{Side}
use Rattle.hv_world.specs.Names.{is_among, names, place_in, number_or}
use Rattle.hv_world.specs.Known.{Known, Signature, signature, signature_at, known_in, variables, predicate_words}
use Rattle.hv_world.specs.Scopes.{Scope, outer, inside, parameters, size, variable_in, is_bound}
use Rattle.hv_world.specs.StaticRules.{types_faults, head_faults, signature_arity, variable_types_faults, term_faults, terms_faults, atom_faults, formula_faults, all_formula_faults, effect_faults, item_faults}
use Rattle.hv_world.specs.Worlds.{World, world_of, either_number, number_of_type, variable_type, types_of, term_in, terms_in, atom_in, formula_in, formulas_in, effect_in, effects_in, number_of}
use Rattle.hv_world.specs.Values.{Formula, Effects}
use Rattle.hv_world.specs.Eithers.{are_same, either_place}
use Rattle.hv_world.specs.Bounds.{IsType, IsBoundTerm, AreBoundTerms, IsBoundAtom, IsBoundFormula, AreBoundFormulas, IsBoundEffect, AreBoundEffects}
use Rattle.hv_world.proofs.NoFaults.{last_none, none_of_each, no_fault}
use Rattle.hv_world.proofs.AmongLemmas.{number_within, some_within}
use Rattle.hv_world.proofs.StaticLemmas.{object_is_type}

-- a number of each variable in scope, below the size of the scope
abbrev pub IsScope : Scope → Type 0
IsScope (outer k number) = (n : List ℕ) → is_some (number n) ≡ true → (i : ℕ) × (number n ≡ Some i) × (i < k)
IsScope (inside s ns) = IsScope s

some_place : (ns : List (List ℕ)) (n : List ℕ) → is_some (place_in ns n) ≡ true → (i : ℕ) × (place_in ns n ≡ Some i) × (i < length ns)
some_place [] n e = absurd (cc)
some_place (m ∷ ns) n e = go (bytes_eq n m) e (some_place ns n)
  where
    further : (o : Option ℕ) → is_some (option_map suc o) ≡ true → is_some o ≡ true
    further None h = absurd (cc)
    further (Some i) h = refl

    go : (b : Bool) → is_some (if b then Some 0 else option_map suc (place_in ns n)) ≡ true → (is_some (place_in ns n) ≡ true → (i : ℕ) × (place_in ns n ≡ Some i) × (i < length ns))
        → (i : ℕ) × ((if b then Some 0 else option_map suc (place_in ns n)) ≡ Some i) × (i < suc (length ns))
    go true h later = (0, refl, omega arith)
    go false h later = let r = later (further (place_in ns n) h) in let lt = r.2 in (suc r.0, ap (option_map suc) r.1, omega arith)

pub parameters_scope : (ns : List (List ℕ)) → IsScope (parameters ns)
parameters_scope ns n e = some_place ns n e

-- a bound variable has a number below the size of the scope
pub bound_number : (scope : Scope) (n : List ℕ) → IsScope scope → is_bound scope n ≡ true → (i : ℕ) × (variable_in scope n ≡ Some i) × (i < size scope)
bound_number (outer k number) n ok e = ok n e
bound_number (inside s ns) n ok e = go (place_in ns n) refl e (bound_number s n ok)
  where
    go : (o : Option ℕ) → place_in ns n ≡ o → (is_some o || is_bound s n) ≡ true → (is_bound s n ≡ true → (i : ℕ) × (variable_in s n ≡ Some i) × (i < size s))
        → (i : ℕ) × (elim o [ None ↦ variable_in s n | Some j ↦ Some (size s + j) ] ≡ Some i) × (i < size s + length ns)
    go None p h later = let r = later h in let lt = r.2 in (r.0, r.1, omega arith)
    go (Some j) p h later = let r = some_place ns n (ap is_some p) in let lt : r.0 < length ns = r.2 in let same : Some j ≡ Some r.0 = sym p ∙ r.1 in (size s + r.0, ap (option_map (λ x. size s + x)) same, omega arith)

pub bound_within : (scope : Scope) (n : List ℕ) → IsScope scope → is_bound scope n ≡ true → number_or (size scope) (variable_in scope n) < size scope
bound_within scope n ok e = let r = bound_number scope n ok e in subst (λ o. number_or (size scope) o < size scope) (sym r.1) r.2

-- a head that is not at fault is known
known_head : (kind : StaticKind) (s : Side) (w : WordAt) (o : Option Signature) (n : ℕ) → head_faults kind s w (signature_arity o) n ≡ [] → (g : Signature) × (o ≡ Some g)
known_head kind s w None n e = absurd (cc)
known_head kind s w (Some g) n e = (g, refl)

number_at : (ps : List Predicate) (o : Option ℕ) (g : Signature) → signature_at ps o ≡ Some g → g.number < length ps
number_at ps None g e = absurd (cc)
number_at ps (Some i) g e = go (slice_get ps i) refl e
  where
    number_is : (h : Signature) → Some h ≡ Some g → h.number ≡ g.number
    number_is h t = ap (λ o. elim o [ None ↦ 0 | Some x ↦ x.number ]) t

    go : (o : Option Predicate) → slice_get ps i ≡ o → elim o [ None ↦ None | Some q ↦ Some (signature i (length q.parameters)) ] ≡ Some g → g.number < length ps
    go None p h = absurd (cc)
    go (Some q) p h = subst (λ x. x < length ps) (number_is (signature i (length q.parameters)) h) (slice_get_within ps i q p)

module _ (d : Domain) (p : Problem) where
  abbrev k : Known
  k = known_in d p

  abbrev w : World
  w = world_of d p

  module _ (s : Side) where
    pub term_bound : (scope : Scope) (x : text.Term) → IsScope scope → term_faults k s scope x ≡ [] → IsBoundTerm w (size scope) (term_in k scope x)
    term_bound scope (text.constant c) ok e = number_within k.objects c.text (no_fault (is_among k.objects c.text) kinds.UnknownObject s c e)
    term_bound scope (text.variable v) ok e = bound_within scope v.text ok (no_fault (is_bound scope v.text) kinds.UnboundVariable s v e)

    pub terms_bound : (scope : Scope) (xs : List text.Term) → IsScope scope → terms_faults k s scope xs ≡ [] → AreBoundTerms w (size scope) (terms_in k scope xs)
    terms_bound scope xs ok e =
        All-map (IsBoundTerm w (size scope)) (term_in k scope) xs
        (All-weaker (λ x. term_faults k s scope x ≡ []) (λ x. IsBoundTerm w (size scope) (term_in k scope x)) (λ x h. term_bound scope x ok h) xs (none_of_each (term_faults k s scope) xs e))

    pub atom_bound : (scope : Scope) (a : text.Atom) → IsScope scope → atom_faults k s scope a ≡ [] → IsBoundAtom w (size scope) (atom_in k scope a)
    atom_bound scope a ok e =
        let head = known_head kinds.UnknownPredicate s a.symbol (k.predicate a.symbol.text) (length a.terms) (first_none _ _ e) in
        let below : head.0.number < length d.predicates = number_at d.predicates (place_in (names (predicate_words d.predicates)) a.symbol.text) head.0 head.1 in
        let long : length d.predicates ≡ length w.predicates = sym (length-map d.predicates (λ q. q.name.text)) in
        let within : head.0.number < length w.predicates = subst (λ n. head.0.number < n) long below in
        (subst (λ o. number_of o < length w.predicates) (sym head.1) within, terms_bound scope a.terms ok (last_none _ _ e))

    type_bound : (ws : List WordAt) → types_faults k s ws ≡ [] → IsType w (number_of_type k ws)
    type_bound [] e = let some = some_within k.types (codes "object") (object_is_type d) in omega (arith, some)
    type_bound (x ∷ []) e = let lt = number_within k.types x.text (no_fault (is_among k.types x.text) kinds.UnknownType s x (first_none _ _ e)) in omega (arith, lt)
    type_bound (x ∷ y ∷ ws) e = by (either_place k.eithers (names (x ∷ y ∷ ws))) refl
      where
        by : (o : Option ℕ) → either_place k.eithers (names (x ∷ y ∷ ws)) ≡ o → either_number k o < length k.types + length k.eithers
        by None h = let some = some_within k.types (codes "object") (object_is_type d) in omega (arith, some)
        by (Some i) h = let lt = (position-Some (are_same (names (x ∷ y ∷ ws))) k.eithers i [] h).0 in omega (arith, lt)

    pub types_bound : (vs : List Variable) → variable_types_faults k s vs ≡ [] → All (IsType w) (types_of k vs)
    types_bound vs e =
        All-map (IsType w) (variable_type k) vs
        (All-weaker (λ v. types_faults k s v.of ≡ []) (λ v. IsType w (variable_type k v)) (λ v h. type_bound v.of h) vs (none_of_each (λ v. types_faults k s v.of) vs e))

    pub as_many : (vs : List Variable) → length (variables vs) ≡ length (types_of k vs)
    as_many vs = length-map vs (λ v. v.name.text) ∙ sym (length-map vs (variable_type k))

    quantified : (scope : Scope) (vs : List Variable) (f : Formula) → IsBoundFormula w (size scope + length (variables vs)) f → IsBoundFormula w (size scope + length (types_of k vs)) f
    quantified scope vs f h = subst (λ n. IsBoundFormula w (size scope + n) f) (as_many vs) h

    for_all : (scope : Scope) (vs : List Variable) (es : Effects) → AreBoundEffects w (size scope + length (variables vs)) es → AreBoundEffects w (size scope + length (types_of k vs)) es
    for_all scope vs es h = subst (λ n. AreBoundEffects w (size scope + n) es) (as_many vs) h

    mutual
      pub formula_bound : (scope : Scope) (f : text.Formula) → IsScope scope → formula_faults k s scope f ≡ [] → IsBoundFormula w (size scope) (formula_in k scope f)
      formula_bound scope (text.holds a) ok e = atom_bound scope a ok e
      formula_bound scope (text.and fs) ok e = formulas_bound scope fs ok e
      formula_bound scope (text.or fs) ok e = formulas_bound scope fs ok e
      formula_bound scope (text.not f) ok e = formula_bound scope f ok e
      formula_bound scope (text.imply f g) ok e = (formula_bound scope f ok (first_none _ _ e), formula_bound scope g ok (last_none _ _ e))
      formula_bound scope (text.forall vs f) ok e =
          (types_bound vs (first_none _ _ (first_none _ _ e)), quantified scope vs (formula_in k (inside scope (variables vs)) f) (formula_bound (inside scope (variables vs)) f ok (last_none _ _ e)))
      formula_bound scope (text.exists vs f) ok e =
          (types_bound vs (first_none _ _ (first_none _ _ e)), quantified scope vs (formula_in k (inside scope (variables vs)) f) (formula_bound (inside scope (variables vs)) f ok (last_none _ _ e)))
      formula_bound scope (text.equal x y) ok e = (term_bound scope x ok (first_none _ _ e), term_bound scope y ok (last_none _ _ e))

      pub formulas_bound : (scope : Scope) (fs : text.Formulas) → IsScope scope → all_formula_faults k s scope fs ≡ [] → AreBoundFormulas w (size scope) (formulas_in k scope fs)
      formulas_bound scope text.no_formulas ok e = tt
      formulas_bound scope (text.more_formulas f fs) ok e = (formula_bound scope f ok (first_none _ _ e), formulas_bound scope fs ok (last_none _ _ e))

    mutual
      pub effects_bound : (scope : Scope) (x : text.Effect) → IsScope scope → effect_faults k s scope x ≡ [] → AreBoundEffects w (size scope) (effects_in k scope x)
      effects_bound scope text.no_items ok e = tt
      effects_bound scope (text.more_items i x) ok e = (effect_bound scope i ok (first_none _ _ e), effects_bound scope x ok (last_none _ _ e))

      pub effect_bound : (scope : Scope) (i : text.Item) → IsScope scope → item_faults k s scope i ≡ [] → IsBoundEffect w (size scope) (effect_in k scope i)
      effect_bound scope (text.becomes l) ok e = atom_bound scope l.atom ok e
      effect_bound scope (text.for_each vs x) ok e =
          (types_bound vs (first_none _ _ (first_none _ _ e)), for_all scope vs (effects_in k (inside scope (variables vs)) x) (effects_bound (inside scope (variables vs)) x ok (last_none _ _ e)))
