-- What a domain and a problem without static faults say.
use Rattle.std.proofs.Common.{◌≡◌, ℕ, ◌+◌, ◌<◌, Bool, true, false, List, [], ◌∷◌, ◌++◌, map, length, get_or, bytes_eq, codes, if◌then◌else◌, All, refl, ap, sym, subst, ◌∙◌, arith}
use Rattle.std.specs.List.{flat_map}
use Rattle.std.proofs.lemmas.List.Elements.{All-cons, All-nil, All-weaker, All-map, All-append}
use Rattle.hv_lists.proofs.Bools.{or_right}
use Rattle.hv_lists.proofs.Places.{first_none}
use Rattle.hv_text.specs.declared.span.Span.{Span}
use Rattle.hv_syntax.specs.Values.{TypeOf, no_type, of_type, type_name, Typed, Network, Method, Htn, Domain, Problem}
use Rattle.hv_world.specs.declared.fault.StaticKind.TheVariants as kinds
use Rattle.hv_world.specs.declared.fault.Side.{Side}
use Rattle.hv_world.specs.declared.fault.Side.TheVariants as sides
use Rattle.hv_world.specs.declared.fault.StaticFault.{StaticFault}
use Rattle.hv_world.specs.Faults.{fault_on}
use Rattle.hv_world.specs.Names.{is_among}
use Rattle.hv_world.specs.Known.{Known, known_in, variables, both_types, type_names}
use Rattle.hv_world.specs.Networks.{written_by, IsArrangeable}
use Rattle.hv_world.specs.Cycles.{is_cyclic}
use Rattle.hv_world.specs.Orders.{IsCyclic}
use Rattle.hv_world.specs.Types.{IsInRange}
use Rattle.hv_world.specs.StaticRules.{type_faults, typed_faults, label_faults, order_faults, method_faults, htn_faults, IsStatic}
use Rattle.hv_world.specs.Worlds.{type_pair, object_pair, eithers_pairs, typing_by}
use Rattle.hv_world.proofs.WithinLemmas.{sound_within}
use Rattle.hv_world.proofs.CycleLemmas.{cycle_found, cycle_there}
use Rattle.hv_world.proofs.NoFaults.{last_none, none_of_each, no_fault}
use Rattle.hv_world.proofs.AmongLemmas.{among_right, among_self, by_sight_has, number_within, some_within}
use Rattle.hv_world.proofs.EitherLemmas.{eithers_declared, eithers_pairs_below}

clash : (b : Bool) → b ≡ true → b ≡ false → ⊥
clash b e g = absurd (cc)

-- networks
module _ (k : Known) (s : Side) where
  abbrev after : Span → Bool → List StaticFault → List StaticFault
  after place b fs = elim fs [ g ∷ gs ↦ g ∷ gs | [] ↦ if b then fault_on kinds.CyclicOrdering s place ∷ [] else [] ]

  sound : (place : Span) (b : Bool) (fs : List StaticFault) → after place b fs ≡ [] → (fs ≡ []) × (b ≡ false)
  sound place true [] e = absurd (cc)
  sound place false [] e = (refl, refl)
  sound place b (f ∷ fs) e = absurd (cc)

  pub order_arrangeable : (place : Span) (n : Network) → order_faults k s place n ≡ [] → IsArrangeable (written_by n)
  order_arrangeable place n e =
      let both = sound place (is_cyclic (written_by n)) (label_faults k s n) e in
      let within = sound_within k s n both.0 in
      record { pairs = within; acyclic = λ c. clash (is_cyclic (written_by n)) (cycle_there (written_by n) within c) both.1 }

  pub cyclic_at_fault : (place : Span) (n : Network) → label_faults k s n ≡ [] → IsCyclic (written_by n) → order_faults k s place n ≡ fault_on kinds.CyclicOrdering s place ∷ []
  cyclic_at_fault place n none cycle =
      ap (after place (is_cyclic (written_by n))) none ∙ ap (λ b. after place b []) (cycle_there (written_by n) (sound_within k s n none) cycle)

  pub acyclic_sound : (place : Span) (n : Network) → label_faults k s n ≡ [] → (IsCyclic (written_by n) → ⊥) → order_faults k s place n ≡ []
  acyclic_sound place n none acyclic = ap (after place (is_cyclic (written_by n))) none ∙ by (is_cyclic (written_by n)) refl where
    by : (b : Bool) → is_cyclic (written_by n) ≡ b → after place b [] ≡ []
    by true e = absurd (acyclic (cycle_found (written_by n) e))
    by false e = refl

  pub method_arrangeable : (m : Method) → method_faults k s m ≡ [] → IsArrangeable (written_by m.network)
  method_arrangeable m e = order_arrangeable m.place m.network (last_none _ _ (last_none _ _ e))

  pub htn_arrangeable : (h : Htn) → htn_faults k s h ≡ [] → IsArrangeable (written_by h.network)
  htn_arrangeable h e = order_arrangeable h.place h.network (last_none _ _ (last_none _ _ e))

-- the types of a domain, and the objects
abbrev AreAmong : List (List ℕ) → Typed → Type 0
AreAmong ns v = (is_among ns v.name.text ≡ true) × (is_among ns (type_name v.of) ≡ true)

known_parents : (vs : List Typed) → All (AreAmong (flat_map both_types vs)) vs
known_parents [] = All-nil (AreAmong [])
known_parents (v ∷ vs) =
    let more : (n : List ℕ) → is_among (flat_map both_types vs) n ≡ true → is_among (flat_map both_types (v ∷ vs)) n ≡ true = λ n e. among_right (both_types v) (flat_map both_types vs) n e in
    All-cons (AreAmong (flat_map both_types (v ∷ vs))) v vs
    (among_self v.name.text (type_name v.of ∷ flat_map both_types vs), or_right (bytes_eq (type_name v.of) v.name.text) _ (among_self (type_name v.of) (flat_map both_types vs)))
    (All-weaker (AreAmong (flat_map both_types vs)) (AreAmong (flat_map both_types (v ∷ vs))) (λ w h. (more w.name.text h.0, more (type_name w.of) h.1)) vs (known_parents vs))

abbrev IsAmong : List (List ℕ) → Typed → Type 0
IsAmong ns v = is_among ns v.name.text ≡ true

known_names : (vs : List Typed) → All (IsAmong (variables vs)) vs
known_names [] = All-nil (IsAmong [])
known_names (v ∷ vs) =
    All-cons (IsAmong (variables (v ∷ vs))) v vs (among_self v.name.text (variables vs))
    (All-weaker (IsAmong (variables vs)) (IsAmong (variables (v ∷ vs))) (λ w h. or_right (bytes_eq w.name.text v.name.text) _ h) vs (known_names vs))

module _ (d : Domain) where
  abbrev sights : List (List ℕ)
  sights = codes "object" ∷ flat_map both_types d.types

  pub object_is_type : is_among (type_names d) (codes "object") ≡ true
  object_is_type = by_sight_has sights (codes "object") (among_self (codes "object") (flat_map both_types d.types))

  type_is_known : (n : List ℕ) → is_among (flat_map both_types d.types) n ≡ true → is_among (type_names d) n ≡ true
  type_is_known n e = by_sight_has sights n (or_right (bytes_eq n (codes "object")) _ e)

  pub declared_type : (k : Known) (s : Side) (t : TypeOf) → k.types ≡ type_names d → type_faults k s t ≡ [] → is_among k.types (type_name t) ≡ true
  declared_type k s no_type e none = subst (λ ns. is_among ns (codes "object") ≡ true) (sym e) object_is_type
  declared_type k s (of_type w) e none = no_fault (is_among k.types w.text) kinds.UnknownType s w none

  module _ (p : Problem) where
    abbrev known : Known
    known = known_in d p

    abbrev IsOfType : Typed → Type 0
    IsOfType v = is_among known.types (type_name v.of) ≡ true

    of_known_type : (s : Side) (vs : List Typed) → typed_faults known s vs ≡ [] → All IsOfType vs
    of_known_type s vs e =
        All-weaker (λ v. type_faults known s v.of ≡ []) IsOfType (λ v none. declared_type known s v.of refl none) vs (none_of_each (λ v. type_faults known s v.of) vs e)

    abbrev pub all_types : ℕ
    all_types = length known.types + length known.eithers

    -- the types with a name are the first of all
    pub among_all : (i : ℕ) → i < length known.types → i < all_types
    among_all i lt = omega arith

    abbrev AreTypes : ℕ × ℕ → Type 0
    AreTypes q = (q.0 < length known.types) × (q.1 < length known.types)

    pub parents_within : All AreTypes (map (type_pair known) d.types)
    parents_within =
        All-map AreTypes (type_pair known) d.types
        (All-weaker (AreAmong (flat_map both_types d.types)) (λ v. AreTypes (type_pair known v))
        (λ v h. (number_within known.types v.name.text (type_is_known v.name.text h.0), number_within known.types (type_name v.of) (type_is_known (type_name v.of) h.1)))
        d.types (known_parents d.types))

    abbrev AreObjectAndType : ℕ × ℕ → Type 0
    AreObjectAndType q = (q.0 < length known.objects) × (q.1 < length known.types)

    abbrev all : List Typed
    all = d.constants ++ p.objects

    both_known : (v : Typed) → IsAmong (variables all) v → IsOfType v → AreObjectAndType (object_pair known v)
    both_known v named typed = (number_within known.objects v.name.text (by_sight_has (variables all) v.name.text named), number_within known.types (type_name v.of) typed)

    declared_within : All IsOfType all → All AreObjectAndType (map (object_pair known) all)
    declared_within typed = All-map AreObjectAndType (object_pair known) all (λ i e lt. both_known (get_or all i e) (known_names all i e lt) (typed i e lt))

    module _ (static : IsStatic d p) where
      pub methods_sound : flat_map (method_faults known sides.Domain) d.methods ≡ []
      methods_sound = last_none _ _ (first_none _ _ static.of_domain)

      pub top_sound : htn_faults known sides.Problem p.htn ≡ []
      top_sound = last_none _ _ (first_none _ _ (first_none _ _ static.of_problem))

      pub methods_arrangeable : All (λ m. IsArrangeable (written_by m.network)) d.methods
      methods_arrangeable =
          All-weaker (λ m. method_faults known sides.Domain m ≡ []) (λ m. IsArrangeable (written_by m.network)) (λ m e. method_arrangeable known sides.Domain m e) d.methods
          (none_of_each (method_faults known sides.Domain) d.methods methods_sound)

      pub top_arrangeable : IsArrangeable (written_by p.htn.network)
      top_arrangeable = htn_arrangeable known sides.Problem p.htn top_sound

      pub objects_within : All AreObjectAndType (map (object_pair known) all)
      objects_within =
          let constants = of_known_type sides.Domain d.constants (last_none _ _ (first_none _ _ (first_none _ _ (first_none _ _ static.of_domain)))) in
          let objects = of_known_type sides.Problem p.objects (first_none _ _ (first_none _ _ (first_none _ _ static.of_problem))) in
          declared_within (All-append IsOfType d.constants p.objects constants objects)

      pub typing_in_range : IsInRange (typing_by known d p)
      typing_in_range =
          record {
            object = among_all 0 (some_within known.types (codes "object") object_is_type);
            parents =
                All-append (λ q. (q.0 < all_types) × (q.1 < all_types)) (map (type_pair known) d.types) (eithers_pairs known (length known.types) known.eithers)
                (All-weaker AreTypes (λ q. (q.0 < all_types) × (q.1 < all_types)) (λ q h. (among_all q.0 h.0, among_all q.1 h.1)) (map (type_pair known) d.types) parents_within)
                (eithers_pairs_below known (length known.types) all_types known.eithers (omega arith) (omega arith) (eithers_declared d p static));
            declared =
                All-weaker AreObjectAndType (λ q. (q.0 < length known.objects) × (q.1 < all_types)) (λ q h. (h.0, among_all q.1 h.1)) (map (object_pair known) all) objects_within;
          }
