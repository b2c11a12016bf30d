-- The fields of a list are its pairs.
use Rattle.std.proofs.Common.{◌≡◌, inl, inr, ◌↔◌, ◌||◌, ℕ, Bool, true, false, not, List, [], ◌∷◌, Option, Some, None, refl, sym, ap, ◌∙◌, subst, if◌then◌else◌}
use Rattle.std.specs.Option.{is_some}
use Rattle.hv_lists.proofs.Options.{same_some}
use Rattle.hv_text.specs.Trees.{Tree, word, list, Trees, none, more}
use Rattle.hv_text.specs.declared.span.Span.{Span}
use Rattle.hv_reading.specs.declared.word.Head.{Head}
use Rattle.hv_reading.specs.declared.word.Head.TheVariants as heads
use Rattle.hv_reading.specs.declared.field.Slot.{Slot}
use Rattle.hv_reading.specs.declared.field.Slot.TheVariants as slots
use Rattle.hv_reading.specs.Words.{head_of}
use Rattle.hv_reading.specs.Lists.{behind_and}
use Rattle.hv_reading.specs.Fields.{slot_of, same_slot, is_in, field, is_field_list}
use Rattle.hv_reading.specs.Declarations.{no_conjuncts, is_nothing}
use Rattle.hv_reading.specs.FieldPairs.{ArePairs, no_pairs, more_pairs, IsOneOf, NoneTwice, IsOfFields, AreFound, SaysNothing, it_is_absent, it_is_empty, it_is_and_alone}
use Rattle.hv_reading.proofs.TableLemmas.{both_true}

same_slots : (r s : Slot) → same_slot r s ≡ true → r ≡ s
same_slots slots.Parameters slots.Parameters h = refl
same_slots slots.Task slots.Task h = refl
same_slots slots.Precondition slots.Precondition h = refl
same_slots slots.Effect slots.Effect h = refl
same_slots slots.Subtasks slots.Subtasks h = refl
same_slots slots.OrderedSubtasks slots.OrderedSubtasks h = refl
same_slots slots.Ordering slots.Ordering h = refl
same_slots slots.Constraints slots.Constraints h = refl
same_slots _ _ h = let clash : false ≡ true = h in cc

-- a field that is allowed is one that can be found
either_same : (r s : Slot) (b c : Bool) → same_slot r s ≡ b → (c ≡ true → same_slot s s ≡ true) → b || c ≡ true → same_slot s s ≡ true
either_same r s true c e f h = subst (λ u. same_slot u s ≡ true) (same_slots r s e) e
either_same r s false c e f h = f h

can_be_found : (allowed : List Slot) (s : Slot) → is_in allowed s ≡ true → same_slot s s ≡ true
can_be_found [] s h = let clash : false ≡ true = h in cc
can_be_found (r ∷ rs) s h = either_same r s (same_slot r s) (is_in rs s) refl (can_be_found rs s) h

found_if : (k : Slot) (e : Tree) (o : Option Tree) (fs : List (Slot × Tree)) (s : Slot) (t : Tree) (b : Bool) → same_slot k s ≡ b → (o ≡ Some t → IsOneOf (s, t) fs)
    → (if b then Some e else o) ≡ Some t → IsOneOf (s, t) ((k, e) ∷ fs)
found_if k e o fs s t true same f h = inl (λ j. (same_slots k s same j, same_some e t h j))
found_if k e o fs s t false same f h = inr (f h)

found : (ts : Trees) (fs : List (Slot × Tree)) → ArePairs ts fs → (s : Slot) (t : Tree) → field s ts ≡ Some t → IsOneOf (s, t) fs
found _ _ no_pairs s t h = let clash : ◌≡◌ {A = Option Tree} None (Some t) = h in cc
found _ _ (more_pairs k p e ts fs pairs) s t h = found_if (slot_of k) e (field s ts) fs s t (same_slot (slot_of k) s) refl (found ts fs pairs s t) h

first_is : (k s : Slot) (e t : Tree) (o : Option Tree) → same_slot s s ≡ true → ◌≡◌ {A = Slot × Tree} (k, e) (s, t) → (if same_slot k s then Some e else o) ≡ Some t
first_is k s e t o l is =
    let same : same_slot k s ≡ true = ap (λ f. same_slot f.0 s) is ∙ l in
    rw same (ap (λ f. Some f.1) is)

later_is : (k s : Slot) (e t : Tree) (o : Option Tree) (b : Bool) → same_slot k s ≡ b → (k ≡ s → ⊥) → o ≡ Some t → (if b then Some e else o) ≡ Some t
later_is k s e t o true same other h = absurd (other (same_slots k s same))
later_is k s e t o false same other h = h

finds : (ts : Trees) (fs : List (Slot × Tree)) → ArePairs ts fs → NoneTwice fs → (s : Slot) (t : Tree) → same_slot s s ≡ true → IsOneOf (s, t) fs → field s ts ≡ Some t
finds _ _ no_pairs n s t l m = absurd m
finds _ _ (more_pairs k p e ts fs pairs) n s t l (inl is) = first_is (slot_of k) s e t (field s ts) l is
finds _ _ (more_pairs k p e ts fs pairs) n s t l (inr m) =
    later_is (slot_of k) s e t (field s ts) (same_slot (slot_of k) s) refl (λ same. n.0 t (subst (λ r. IsOneOf (r, t) fs) (sym same) m)) (finds ts fs pairs n.1 s t l m)

-- lists of fields
no_field : (o : Option Tree) → ((t : Tree) → o ≡ Some t → ⊥) → is_some o ≡ false
no_field None h = refl
no_field (Some t) h = absurd (h t refl)

field_there : (o : Option Tree) (t : Tree) → o ≡ Some t → is_some o ≡ false → ⊥
field_there o t e f = let clash : true ≡ false = ap is_some (sym e) ∙ f in cc

not_true : (b : Bool) → not b ≡ true → b ≡ false
not_true false h = refl
not_true true h = let clash : false ≡ true = h in cc

allowed_more : (allowed : List Slot) (k : Slot) (e : Tree) (fs : List (Slot × Tree)) → is_in allowed k ≡ true → ((s : Slot) (t : Tree) → IsOneOf (s, t) fs → is_in allowed s ≡ true)
    → (s : Slot) (t : Tree) → IsOneOf (s, t) ((k, e) ∷ fs) → is_in allowed s ≡ true
allowed_more allowed k e fs h all s t (inl is) = subst (λ f. is_in allowed f.0 ≡ true) is h
allowed_more allowed k e fs h all s t (inr m) = all s t m

one_more_field : (allowed : List Slot) (k : List ℕ) (p : Span) (e : Tree) (ts : Trees) → is_in allowed (slot_of k) ≡ true → is_some (field (slot_of k) ts) ≡ false → IsOfFields allowed ts
    → IsOfFields allowed (more (word k p) (more e ts))
one_more_field allowed k p e ts here once rest =
    record {
      pairs = (slot_of k, e) ∷ rest.pairs;
      are_pairs = more_pairs k p e ts rest.pairs rest.are_pairs;
      are_allowed = allowed_more allowed (slot_of k) e rest.pairs here rest.are_allowed;
      none_twice =
          (λ t m. field_there (field (slot_of k) ts) t (finds ts rest.pairs rest.are_pairs rest.none_twice (slot_of k) t (can_be_found allowed (slot_of k) here) m) once, rest.none_twice);
    }

is_of_fields : (allowed : List Slot) (ts : Trees) → is_field_list allowed ts ≡ true → IsOfFields allowed ts
is_of_fields allowed none h = record { pairs = []; are_pairs = no_pairs; are_allowed = λ s e m. absurd m; none_twice = tt }
is_of_fields allowed (more (list us p) ts) h = let clash : false ≡ true = h in cc
is_of_fields allowed (more (word k p) none) h = let clash : false ≡ true = h in cc
is_of_fields allowed (more (word k p) (more e ts)) h =
    let each = both_true (is_in allowed (slot_of k)) (not (is_some (field (slot_of k) ts))) (is_field_list allowed ts) h in
    one_more_field allowed k p e ts each.0 (not_true (is_some (field (slot_of k) ts)) each.1) (is_of_fields allowed ts each.2)

all_fields : (allowed : List Slot) (ts : Trees) (fs : List (Slot × Tree)) → ArePairs ts fs → ((s : Slot) (e : Tree) → IsOneOf (s, e) fs → is_in allowed s ≡ true) → NoneTwice fs
    → is_field_list allowed ts ≡ true
all_fields allowed _ _ no_pairs all n = refl
all_fields allowed _ _ (more_pairs k p e ts fs pairs) all n =
    let here : is_in allowed (slot_of k) ≡ true = all (slot_of k) e (inl refl) in
    let once : is_some (field (slot_of k) ts) ≡ false = no_field (field (slot_of k) ts) (λ t h. n.0 t (found ts fs pairs (slot_of k) t h)) in
    let rest : is_field_list allowed ts ≡ true = all_fields allowed ts fs pairs (λ s t m. all s t (inr m)) n.1 in
    rw (here, once, rest) refl

pub lists_table : (allowed : List Slot) (ts : Trees) → (is_field_list allowed ts ≡ true) ↔ IsOfFields allowed ts
lists_table allowed ts = (is_of_fields allowed ts, λ h. all_fields allowed ts h.pairs h.are_pairs h.are_allowed h.none_twice)

pub found_table : (allowed : List Slot) (ts : Trees) → AreFound allowed ts
found_table allowed ts h s e =
    (found ts h.pairs h.are_pairs s e, λ m. finds ts h.pairs h.are_pairs h.none_twice s e (can_be_found allowed s (h.are_allowed s e m)) m)

-- where nothing is said
by_head : (h : Head) (w : List ℕ) (p s : Span) (ts : Trees) → head_of w ≡ h → no_conjuncts (behind_and h ts) ≡ true → SaysNothing (Some (list (more (word w p) ts) s))
by_head heads.And w p s none is h = it_is_and_alone w p s is
by_head heads.And w p s (more t ts) is h = let clash : false ≡ true = h in cc
by_head _ w p s ts is h = let clash : false ≡ true = h in cc

says_nothing : (o : Option Tree) → is_nothing o ≡ true → SaysNothing o
says_nothing None h = it_is_absent
says_nothing (Some (word w s)) h = let clash : false ≡ true = h in cc
says_nothing (Some (list none s)) h = it_is_empty s
says_nothing (Some (list (more (word w p) ts) s)) h = by_head (head_of w) w p s ts refl h
says_nothing (Some (list (more (list us p) ts) s)) h = let clash : false ≡ true = h in cc

nothing_said : (o : Option Tree) → SaysNothing o → is_nothing o ≡ true
nothing_said _ it_is_absent = refl
nothing_said _ (it_is_empty s) = refl
nothing_said _ (it_is_and_alone w p s is) = rw is refl

pub nothing_table : (o : Option Tree) → (is_nothing o ≡ true) ↔ SaysNothing o
nothing_table o = (says_nothing o, nothing_said o)
