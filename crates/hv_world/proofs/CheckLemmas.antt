-- The first faults of formulas, and of the parts of sections.
use Rattle.std.proofs.Common.{◌≡◌, ℕ, suc, ◌+◌, Bool, true, false, not, ◌||◌, List, [], ◌∷◌, map, length, Option, Some, None, is_some, option_map, bytes_eq, if◌then◌else◌, refl, ap, sym, subst, ◌∙◌, rules}
use Rattle.std.specs.Prelude.{MatchOption}
use Rattle.hv_text.specs.declared.span.Span.{Span}
use Rattle.std.proofs.lemmas.List.{length-map}
use Rattle.std.specs.Global.{Box}
use Rattle.hv_syntax.specs.declared.formula.FormulaText.{FormulaText, Imply, the_lemmas}
use Rattle.hv_syntax.specs.declared.variable.VariableText.{VariableText}
use Rattle.hv_syntax.specs.Values.{WordAt, Variable, Pair, Network, imply}
use Rattle.hv_syntax.specs.Views.{variable_view, formula_view}
use Rattle.hv_world.specs.declared.fault.Side.{Side}
use Rattle.hv_world.specs.declared.fault.StaticFault.{StaticFault}
use Rattle.hv_world.specs.Known.{Known, variables}
use Rattle.hv_world.specs.declared.names.Names.{Names}
use Rattle.hv_world.specs.inside.Tables.{places_by}
use Rattle.hv_world.specs.declared.fault.StaticKind.TheVariants as kinds
use Rattle.hv_world.specs.declared.fault.Side.TheVariants as sides
use Rattle.hv_world.specs.Names.{is_among, place_in, repeated}
use Rattle.hv_world.specs.Networks.{written_by}
use Rattle.hv_world.specs.Cycles.{is_cyclic}
use Rattle.hv_world.specs.Scopes.{Scope, outer, inside, parameters, size, variable_in, is_bound}
use Rattle.hv_world.specs.Faults.{fault_on, fault_if, faults_at, earlier, least, IsFirst}
use Rattle.hv_world.specs.StaticRules.{at_word_if, formula_faults, pair_faults, label_faults, order_faults}
use Rattle.hv_world.proofs.FaultLemmas.{least-both, least-if, least_first}

pub view-Imply : (b c : Box FormulaText) → formula_view (Imply b c) ≡ imply (formula_view b.value) (formula_view c.value)
view-Imply b c = search (rules, the_lemmas)

module _ (k : Known) (s : Side) (scope : Scope) where
  pub imply_fault : (f : FormulaText) (b c : Box FormulaText) (g h : FormulaText) (x y : Option StaticFault) → f ≡ Imply b c → g ≡ b.value → h ≡ c.value
      → x ≡ least (formula_faults k s scope (formula_view g)) → y ≡ least (formula_faults k s scope (formula_view h))
      → earlier x y ≡ least (formula_faults k s scope (formula_view f))
  imply_fault f b c g h x y is left right x_is y_is =
      least-both (formula_faults k s scope (formula_view b.value)) (formula_faults k s scope (formula_view c.value)) _ _ (x_is ∙ ap (λ e. least (formula_faults k s scope (formula_view e))) left) (y_is ∙ ap (λ e. least (formula_faults k s scope (formula_view e))) right)
      ∙ ap (λ e. least (formula_faults k s scope e)) (sym (view-Imply b c)) ∙ ap (λ e. least (formula_faults k s scope (formula_view e))) (sym is)

-- a variable has a number just where it is in scope
pub bound_is : (s : Scope) (n : List ℕ) → is_some (variable_in s n) ≡ is_bound s n
bound_is (outer k number) n = refl
bound_is (inside s ns) n = either (place_in ns n) (bound_is s n)
  where
    either : (o : Option ℕ) → is_some (variable_in s n) ≡ is_bound s n
        → is_some (elim o [ None ↦ variable_in s n | Some i ↦ Some (size s + i) ]) ≡ (is_some o || is_bound s n)
    either None rest = rest
    either (Some i) rest = refl

-- a name has a place just where it is among names
pub has_place : (ns : List (List ℕ)) (q : List ℕ) → is_some (place_in ns q) ≡ is_among ns q
has_place [] q = refl
has_place (n ∷ ns) q = here_or (bytes_eq q n) (has_place ns q)
  where
    further : (o : Option ℕ) → is_some (option_map suc o) ≡ is_some o
    further None = refl
    further (Some i) = refl

    here_or : (b : Bool) → is_some (place_in ns q) ≡ is_among ns q → is_some (if b then Some 0 else option_map suc (place_in ns q)) ≡ (b || is_among ns q)
    here_or true rest = refl
    here_or false rest = further (place_in ns q) ∙ rest

module _ (k : Known) (s : Side) where
  pub pair_is : (places : List ℕ → Option ℕ) (ls : List (List ℕ)) → places ≡ place_in ls → (p : Pair) (x y : Option StaticFault)
      → x ≡ fault_if (not (is_some (places p.earlier.text))) kinds.UnknownLabel s p.earlier
      → y ≡ fault_if (not (is_some (places p.later.text))) kinds.UnknownLabel s p.later
      → earlier x y ≡ least (pair_faults k s ls p)
  pair_is places ls is p x y x_is y_is =
      let at : (w : WordAt) → fault_if (not (is_some (places w.text))) kinds.UnknownLabel s w ≡ least (at_word_if (not (is_among ls w.text)) kinds.UnknownLabel s w) =
      λ w. ap (λ b. fault_if (not b) kinds.UnknownLabel s w) (ap (λ f. is_some (f w.text)) is ∙ has_place ls w.text) ∙ least-if (not (is_among ls w.text)) kinds.UnknownLabel s w in
      least-both (at_word_if (not (is_among ls p.earlier.text)) kinds.UnknownLabel s p.earlier) (at_word_if (not (is_among ls p.later.text)) kinds.UnknownLabel s p.later) x y
      (x_is ∙ at p.earlier) (y_is ∙ at p.later)

  module _ (place : Span) (n : Network) where
    abbrev after : List StaticFault → List StaticFault
    after fs = elim fs [ g ∷ gs ↦ g ∷ gs | [] ↦ if is_cyclic (written_by n) then fault_on kinds.CyclicOrdering s place ∷ [] else [] ]

    -- an order without faults of labels
    pub order_sound : (b : Bool) → label_faults k s n ≡ [] → b ≡ is_cyclic (written_by n)
        → least (if b then fault_on kinds.CyclicOrdering s place ∷ [] else []) ≡ least (order_faults k s place n)
    order_sound b sound is = ap (λ c. least (if c then fault_on kinds.CyclicOrdering s place ∷ [] else [])) is ∙ ap (λ fs. least (after fs)) (sym sound)

    kept : (fs : List StaticFault) (f : StaticFault) → least fs ≡ Some f → least fs ≡ least (after fs)
    kept [] f e = absurd (cc)
    kept (g ∷ gs) f e = refl

    pub order_unsound : (f : StaticFault) → least (label_faults k s n) ≡ Some f → Some f ≡ least (order_faults k s place n)
    order_unsound f e = sym e ∙ kept (label_faults k s n) f e

pub none_of : (fs : List StaticFault) → least fs ≡ None → fs ≡ []
none_of fs e = subst (λ o. MatchOption o (fs ≡ []) (IsFirst fs)) e (least_first fs)

pub first_of_all : (fs : List StaticFault) (f : StaticFault) → least fs ≡ Some f → IsFirst fs f
first_of_all fs f e = subst (λ o. MatchOption o (fs ≡ []) (IsFirst fs)) e (least_first fs)

-- the scope of a section is that of its parameters
pub scope_is : (vs : List VariableText) (ps : List Variable) (t : Names) → map variable_view vs ≡ ps → places_by t ≡ place_in (variables (map variable_view vs))
    → outer (length vs) (places_by t) ≡ parameters (variables ps)
scope_is vs ps t are placed =
    let long : length vs ≡ length (variables ps) =
    sym (length-map vs variable_view) ∙ sym (length-map (map variable_view vs) (λ (v : Variable). v.name.text)) ∙ ap (λ xs. length (variables xs)) are in
    let places : places_by t ≡ place_in (variables ps) = placed ∙ ap (λ xs. place_in (variables xs)) are in
    λ i. outer (long i) (places i)

-- the faults of names that are declared twice
abbrev pub twice : List WordAt → List StaticFault
twice ws = faults_at kinds.DuplicateName sides.Domain (repeated ws)
