-- What a line says, and for which cause it is at fault.
use Rattle.std.proofs.Common.{◌≡◌, ℕ, zero, suc, ◌+◌, ◌<◌, ◌⊎◌, inl, inr, nat_eq, Bool, true, false, List, [], ◌∷◌, map, length, Option, Some, None, option_map, slice_get, refl, ap, sym, subst, ◌∙◌, arith, if◌then◌else◌}
use Rattle.std.specs.Prelude.{Contains}
use Rattle.std.specs.List.{AllZip}
use Rattle.std.specs.Prelude.{get_or}
use Rattle.std.proofs.lemmas.List.Elements.{AllZip-get_or}
use Rattle.hv_lists.proofs.Contained.{contains_first, in_tail}
use Rattle.hv_lists.proofs.Pairs.{same_length}
use Rattle.hv_lists.proofs.Numbers.{below_next}
use Rattle.hv_lists.proofs.Places.{member_at}
use Rattle.hv_world.specs.Types.{Of}
use Rattle.hv_world.specs.Values.{TaskName, compound, primitive}
use Rattle.hv_world.specs.Names.{place_in}
use Rattle.hv_world.specs.Worlds.{World, Method, word_of, method_names, task_named, method_named}
use Rattle.std.proofs.lemmas.List.{length-map, get_or-map}
use Rattle.hv_world.specs.declared.id.TypeId.{TypeId}
use Rattle.hv_world.specs.declared.id.ObjectId.{ObjectId}
use Rattle.hv_world.specs.Views.{type_number}
use Rattle.std.specs.Str.{bytes_eq}
use Rattle.std.specs.Prelude.{MatchOption}
use Rattle.hv_plan.specs.Values as text
use Rattle.hv_plan.specs.Forms.{every, both}
use Rattle.hv_plan.specs.Shapes.{head}
use Rattle.hv_world.specs.Bindings.{object_number}
use Rattle.hv_plan.specs.inside.FitViews.{IsDecomposed}
use Rattle.hv_plan.specs.inside.FitViews.{Decomposed}
use Rattle.hv_plan.specs.Fits.{parameters_of, AreObjects, IsForTask, Says, method_of}
use Rattle.hv_world.specs.Groundings.{AreOf}
use Rattle.hv_plan.specs.Causes.{number}
use Rattle.hv_plan.specs.inside.LineFaults.{Entry, action_entry, line_entry, IsAtFault, IsSmallest, IsObjectFault, count, type, IsArgumentFault, IsLineFault, unknown, objects}
use Rattle.hv_plan.specs.declared.fit.LineFault.{LineFault}
use Rattle.hv_plan.specs.declared.fit.LineFault.TheVariants as faults
use Rattle.hv_plan.specs.declared.cause.CauseKind.{CauseKind}
use Rattle.hv_plan.specs.declared.cause.CauseKind.TheVariants as kinds

-- a member of a list is the first or one of the rest
pub contains_cons : {X : Type 0} (x : X) (xs : List X) (y : X) → Contains (x ∷ xs) y → (x ≡ y) ⊎ Contains xs y
contains_cons x xs y (zero, lt, e) = inl e
contains_cons x xs y (suc k, lt, e) = inr (k, omega arith, e)

-- each member of a list that is paired with another has a partner
pub partner : {A B : Type 0} (R : A → B → Type 0) (xs : List A) (ys : List B) (x : A) → AllZip R xs ys → Contains xs x → (y : B) × R x y
partner R [] ys x all (k, lt, e) = absurd (omega arith)
partner R (x' ∷ xs) [] x all in' = absurd all
partner R (x' ∷ xs) (y ∷ ys) x (r, all) in' = elim (contains_cons x' xs x in') [ inl e ↦ (y, subst (λ z. R z y) e r) | inr rest ↦ partner R xs ys x all rest ]

-- a list is paired with one list alone, where what is paired is a function's value
pub same_partners : {A B : Type 0} (f : A → Option B) (xs : List A) (ys zs : List B) → AllZip (λ x y. f x ≡ Some y) xs ys → AllZip (λ x y. f x ≡ Some y) xs zs → ys ≡ zs
same_partners f [] [] [] p q = refl
same_partners f [] [] (z ∷ zs) p q = absurd q
same_partners f [] (y ∷ ys) zs p q = absurd p
same_partners f (x ∷ xs) [] zs p q = absurd p
same_partners f (x ∷ xs) (y ∷ ys) [] p q = absurd q
same_partners {A} {B} f (x ∷ xs) (y ∷ ys) (z ∷ zs) (p, ps) (q, qs) = cons (cc) (same_partners f xs ys zs ps qs)
  where
    cons : {u v : B} {us vs : List B} → u ≡ v → us ≡ vs → u ∷ us ≡ v ∷ vs
    cons e es = (λ i. e i ∷ es i)

-- the values of a function at each member of a list, where it has one at all
pub every_some : {A B : Type 0} (f : A → Option B) (xs : List A) (ys : List B) → every f xs ≡ Some ys → AllZip (λ x y. f x ≡ Some y) xs ys
every_some f [] [] e = tt
every_some f [] (y ∷ ys) e = cc
every_some {A} {B} f (x ∷ xs) ys e = go (f x) (every f xs) ys refl refl e (λ zs q. every_some f xs zs q)
  where
    go : (o : Option B) (os : Option (List B)) (ys : List B) → f x ≡ o → every f xs ≡ os → both ◌∷◌ o os ≡ Some ys
        → ((zs : List B) → every f xs ≡ Some zs → AllZip (λ x y. f x ≡ Some y) xs zs) → AllZip (λ x y. f x ≡ Some y) (x ∷ xs) ys
    go None os ys p q r again = cc
    go (Some y) None ys p q r again = cc
    go (Some y) (Some zs) [] p q r again = cc
    go (Some y) (Some zs) (u ∷ us) p q r again =
        let head' : f x ≡ Some u = cc in
        let tail : every f xs ≡ Some us = cc in
        (head', again us tail)

-- a member at which a function has no value, where it has not one at all
pub every_none : {A B : Type 0} (f : A → Option B) (xs : List A) → every f xs ≡ None → (x : A) × Contains xs x × (f x ≡ None)
every_none f [] e = cc
every_none {A} {B} f (x ∷ xs) e = go (f x) (every f xs) refl refl e (λ q. every_none f xs q)
  where
    go : (o : Option B) (os : Option (List B)) → f x ≡ o → every f xs ≡ os → both ◌∷◌ o os ≡ None
        → (every f xs ≡ None → (z : A) × Contains xs z × (f z ≡ None)) → (y : A) × Contains (x ∷ xs) y × (f y ≡ None)
    go None os p q r again = (x, contains_first x xs, p)
    go (Some y) None p q r again = later (again q)
      where
        later : (z : A) × Contains xs z × (f z ≡ None) → (y : A) × Contains (x ∷ xs) y × (f y ≡ None)
        later (z, in', none) = (z, in_tail x xs z in', none)
    go (Some y) (Some zs) p q r again = cc

-- causes by their numbers
abbrev cause_of : ℕ → CauseKind
cause_of n =
    if nat_eq n 50 then kinds.RepeatedId else if nat_eq n 51 then kinds.UnknownChild else if nat_eq n 52 then kinds.TwoParents
    else if nat_eq n 53 then kinds.Unreached else if nat_eq n 54 then kinds.UnknownTask else if nat_eq n 55 then kinds.UnknownMethod
    else if nat_eq n 56 then kinds.UnknownObject else if nat_eq n 57 then kinds.ArgumentCount else if nat_eq n 58 then kinds.ArgumentType
    else if nat_eq n 59 then kinds.NotPrimitive else if nat_eq n 60 then kinds.NotAbstract else if nat_eq n 61 then kinds.OtherTask
    else if nat_eq n 62 then kinds.ChildCount else kinds.ChildNames

cause_back : (k : CauseKind) → cause_of (number k) ≡ k
cause_back kinds.RepeatedId = refl
cause_back kinds.UnknownChild = refl
cause_back kinds.TwoParents = refl
cause_back kinds.Unreached = refl
cause_back kinds.UnknownTask = refl
cause_back kinds.UnknownMethod = refl
cause_back kinds.UnknownObject = refl
cause_back kinds.ArgumentCount = refl
cause_back kinds.ArgumentType = refl
cause_back kinds.NotPrimitive = refl
cause_back kinds.NotAbstract = refl
cause_back kinds.OtherTask = refl
cause_back kinds.ChildCount = refl
cause_back kinds.ChildNames = refl

-- no two causes have one number
pub same_cause : (j k : CauseKind) → number j ≡ number k → j ≡ k
same_cause j k e = sym (cause_back j) ∙ ap cause_of e ∙ cause_back k

module _ (w : World) (e : Entry) where
  -- a line is at fault by itself for no cause of a number below
  abbrev pub NoneBelow : ℕ → Type 0
  NoneBelow n = (j : CauseKind) → number j < n → IsAtFault w e j → ⊥

  pub none_below_54 : NoneBelow 54
  none_below_54 kinds.RepeatedId lt f = f
  none_below_54 kinds.UnknownChild lt f = f
  none_below_54 kinds.TwoParents lt f = f
  none_below_54 kinds.Unreached lt f = f
  none_below_54 kinds.UnknownTask lt f = omega arith
  none_below_54 kinds.UnknownMethod lt f = omega arith
  none_below_54 kinds.UnknownObject lt f = omega arith
  none_below_54 kinds.ArgumentCount lt f = omega arith
  none_below_54 kinds.ArgumentType lt f = omega arith
  none_below_54 kinds.NotPrimitive lt f = omega arith
  none_below_54 kinds.NotAbstract lt f = omega arith
  none_below_54 kinds.OtherTask lt f = omega arith
  none_below_54 kinds.ChildCount lt f = f
  none_below_54 kinds.ChildNames lt f = f

  pub none_below_next : (k : CauseKind) → NoneBelow (number k) → (IsAtFault w e k → ⊥) → NoneBelow (number k + 1)
  none_below_next k below not j lt f =
      elim (below_next (number j) (number k) lt) [ inl less ↦ below j less f | inr same ↦ not (subst (λ i. IsAtFault w e i) (same_cause j k same) f) ]

  module _ (t : TaskName) (named : task_named w e.said.name ≡ Some t) where
    named_is_known : IsAtFault w e kinds.UnknownTask → ⊥
    named_is_known none = cc

    below_55 : NoneBelow 55
    below_55 = none_below_next kinds.UnknownTask none_below_54 named_is_known

    module _ (has_method : IsAtFault w e kinds.UnknownMethod → ⊥) where
      below_56 : NoneBelow 56
      below_56 = none_below_next kinds.UnknownMethod below_55 has_method

      module _ (os : List ℕ) (found : AreObjects w e.said.arguments os) where
        objects_are_known : IsAtFault w e kinds.UnknownObject → ⊥
        objects_are_known (n, in', none) =
            let (o, is) = partner (λ n o. place_in w.objects n ≡ Some o) e.said.arguments os n found in' in
            cc

        below_57 : NoneBelow 57
        below_57 = none_below_next kinds.UnknownObject below_56 objects_are_known

        module _ (as_many : length e.said.arguments ≡ length (parameters_of w t)) where
          arguments_are_as_many : IsAtFault w e kinds.ArgumentCount → ⊥
          arguments_are_as_many (u, names, differ) =
              let same : t ≡ u = cc in
              differ (subst (λ v. length e.said.arguments ≡ length (parameters_of w v)) same as_many)

          below_58 : NoneBelow 58
          below_58 = none_below_next kinds.ArgumentCount below_57 arguments_are_as_many

          module _ (typed : AreOf w.typing os (parameters_of w t)) where
            arguments_are_typed : IsAtFault w e kinds.ArgumentType → ⊥
            arguments_are_typed (u, ps, names, found', untyped) =
                let same : t ≡ u = cc in
                let objects : os ≡ ps = same_partners (place_in w.objects) e.said.arguments os ps found found' in
                untyped (subst (λ v. AreOf w.typing ps (parameters_of w v)) same (subst (λ xs. AreOf w.typing xs (parameters_of w t)) objects typed))

            below_59 : NoneBelow 59
            below_59 = none_below_next kinds.ArgumentType below_58 arguments_are_typed

  pub none_below_62 : NoneBelow 59 → (IsAtFault w e kinds.NotPrimitive → ⊥) → (IsAtFault w e kinds.NotAbstract → ⊥)
      → (IsAtFault w e kinds.OtherTask → ⊥) → (k : CauseKind) → IsAtFault w e k → ⊥
  none_below_62 below p a o kinds.RepeatedId f = f
  none_below_62 below p a o kinds.UnknownChild f = f
  none_below_62 below p a o kinds.TwoParents f = f
  none_below_62 below p a o kinds.Unreached f = f
  none_below_62 below p a o kinds.UnknownTask f = below kinds.UnknownTask (omega arith) f
  none_below_62 below p a o kinds.UnknownMethod f = below kinds.UnknownMethod (omega arith) f
  none_below_62 below p a o kinds.UnknownObject f = below kinds.UnknownObject (omega arith) f
  none_below_62 below p a o kinds.ArgumentCount f = below kinds.ArgumentCount (omega arith) f
  none_below_62 below p a o kinds.ArgumentType f = below kinds.ArgumentType (omega arith) f
  none_below_62 below p a o kinds.NotPrimitive f = p f
  none_below_62 below p a o kinds.NotAbstract f = a f
  none_below_62 below p a o kinds.OtherTask f = o f
  none_below_62 below p a o kinds.ChildCount f = f
  none_below_62 below p a o kinds.ChildNames f = f

  -- which cause is the smallest
  pub task_unknown : task_named w e.said.name ≡ None → IsSmallest w e kinds.UnknownTask
  task_unknown none = record { applies = none; smallest = none_below_54 }

  pub method_unknown : (t : TaskName) → task_named w e.said.name ≡ Some t → IsAtFault w e kinds.UnknownMethod → IsSmallest w e kinds.UnknownMethod
  method_unknown t named f = record { applies = f; smallest = below_55 t named }

  pub argument_fault : (t : TaskName) → task_named w e.said.name ≡ Some t → (IsAtFault w e kinds.UnknownMethod → ⊥)
      → (k : CauseKind) → IsArgumentFault w t e.said.arguments k → IsSmallest w e k
  argument_fault t named known _ (unknown n in' none) = record { applies = (n, in', none); smallest = below_56 t named known }
  argument_fault t named known _ (objects os k found f) = among k f
    where
      lengths : length e.said.arguments ≡ length os
      lengths = same_length (λ n o. place_in w.objects n ≡ Some o) e.said.arguments os found

      among : (j : CauseKind) → IsObjectFault w t os j → IsSmallest w e j
      among _ (count differ) = record { applies = (t, named, λ same. differ (sym lengths ∙ same)); smallest = below_57 t named known os found }
      among _ (type same untyped) =
          record { applies = (t, os, named, found, untyped); smallest = below_58 t named known os found (lengths ∙ same) }

-- another fault, where each cause is one of another
pub other_fault : (P Q : CauseKind → Type 0) → ((k : CauseKind) → P k → Q k) → (f : LineFault) → IsLineFault P f → IsLineFault Q f
other_fault P Q each (faults.Cause k) is = each k is
other_fault P Q each faults.Memory is = tt

-- an action line has no method
pub has_no_method : (w : World) (a : text.Action) → IsAtFault w (action_entry a) kinds.UnknownMethod → ⊥
has_no_method w a (n, is, none) = cc

-- an action line that names a task
pub names_task : (w : World) (a : text.Action) (t : ℕ) (os : List ℕ) → task_named w a.name ≡ Some (compound t) → AreObjects w a.arguments os
    → AreOf w.typing os (parameters_of w (compound t)) → IsSmallest w (action_entry a) kinds.NotPrimitive
names_task w a t os named found typed =
    record {
      applies = (t, refl, named);
      smallest = below_59 w (action_entry a) (compound t) named (λ f. has_no_method w a f) os found lengths typed;
    }
  where
    lengths : length a.arguments ≡ length (parameters_of w (compound t))
    lengths = same_length (λ n o. place_in w.objects n ≡ Some o) a.arguments os found ∙ same_length _ os _ typed

-- an action line that names an action, with objects as its parameters, is not at fault by itself
pub action_has_no_fault : (w : World) (a : text.Action) (n : ℕ) (os : List ℕ) → Says w a (primitive n) os
    → (k : CauseKind) → IsAtFault w (action_entry a) k → ⊥
action_has_no_fault w a n os says =
    none_below_62 w (action_entry a) (below_59 w (action_entry a) (primitive n) says.name (λ f. has_no_method w a f) os says.objects lengths says.typed)
    (λ f. no_task f) (λ f. no_method_here f) (λ f. no_method_there f)
  where
    no_task : IsAtFault w (action_entry a) kinds.NotPrimitive → ⊥
    no_task (t, is, named) = let named' : task_named w a.name ≡ Some (primitive n) = says.name in cc

    no_method_here : IsAtFault w (action_entry a) kinds.NotAbstract → ⊥
    no_method_here (m, b, is, named) = cc

    no_method_there : IsAtFault w (action_entry a) kinds.OtherTask → ⊥
    no_method_there (m, t, method, is, named, of, other) = cc

    lengths : length a.arguments ≡ length (parameters_of w (primitive n))
    lengths = same_length (λ n o. place_in w.objects n ≡ Some o) a.arguments os says.objects ∙ same_length _ os _ says.typed

-- a decomposition line has a method, which is known where its name is one
has_method : (w : World) (d : text.Decomposition) → IsAtFault w (line_entry d) kinds.NotPrimitive → ⊥
has_method w d (t, none, named) = cc

pub method_known : (w : World) (d : text.Decomposition) (v : ℕ) → method_named w d.method ≡ Some v → IsAtFault w (line_entry d) kinds.UnknownMethod → ⊥
method_known w d v named (n, is, none) =
    let same : d.method ≡ n = cc in
    let named' : method_named w n ≡ Some v = subst (λ m. method_named w m ≡ Some v) same named in
    cc

-- a decomposition line that names an action
pub names_action : (w : World) (d : text.Decomposition) (n v : ℕ) (os : List ℕ) → task_named w d.name ≡ Some (primitive n)
    → method_named w d.method ≡ Some v → AreObjects w d.arguments os → AreOf w.typing os (parameters_of w (primitive n))
    → IsSmallest w (line_entry d) kinds.NotAbstract
names_action w d n v os named method found typed =
    record {
      applies = (d.method, n, refl, named);
      smallest = none_below_next w (line_entry d) kinds.NotPrimitive
          (below_59 w (line_entry d) (primitive n) named (λ f. method_known w d v method f) os found lengths typed) (λ f. has_method w d f);
    }
  where
    lengths : length d.arguments ≡ length (parameters_of w (primitive n))
    lengths = same_length (λ n o. place_in w.objects n ≡ Some o) d.arguments os found ∙ same_length _ os _ typed

-- a decomposition line of a method that is for another task
pub method_of_other : (w : World) (d : text.Decomposition) (t v : ℕ) (m : Method) (os : List ℕ) → task_named w d.name ≡ Some (compound t)
    → method_named w d.method ≡ Some v → slice_get w.methods v ≡ Some m → AreObjects w d.arguments os → AreOf w.typing os (parameters_of w (compound t))
    → (IsForTask m.task t → ⊥) → IsSmallest w (line_entry d) kinds.OtherTask
method_of_other w d t v m os named method numbered found typed other =
    record {
      applies = (d.method, t, m, refl, named, rw method numbered, other);
      smallest = none_below_next w (line_entry d) kinds.NotAbstract
          (none_below_next w (line_entry d) kinds.NotPrimitive
          (below_59 w (line_entry d) (compound t) named (λ f. method_known w d v method f) os found lengths typed) (λ f. has_method w d f))
          (λ f. no_action f);
    }
  where
    lengths : length d.arguments ≡ length (parameters_of w (compound t))
    lengths = same_length (λ n o. place_in w.objects n ≡ Some o) d.arguments os found ∙ same_length _ os _ typed

    no_action : IsAtFault w (line_entry d) kinds.NotAbstract → ⊥
    no_action (n, a, is, names) = let named' : task_named w d.name ≡ Some (compound t) = named in cc

-- a decomposition line that names a task, with objects as its parameters, and a method for it, is not at fault by itself
pub line_has_no_fault : (w : World) (d : text.Decomposition) (t v : ℕ) (m : Method) (os : List ℕ) → Says w (head d) (compound t) os
    → method_named w d.method ≡ Some v → slice_get w.methods v ≡ Some m → IsForTask m.task t
    → (k : CauseKind) → IsAtFault w (line_entry d) k → ⊥
line_has_no_fault w d t v m os says method numbered is_for =
    none_below_62 w (line_entry d)
    (below_59 w (line_entry d) (compound t) says.name (λ f. method_known w d v method f) os says.objects lengths says.typed)
    (λ f. has_method w d f) (λ f. no_action f) (λ f. its_task f)
  where
    lengths : length d.arguments ≡ length (parameters_of w (compound t))
    lengths = same_length (λ n o. place_in w.objects n ≡ Some o) d.arguments os says.objects ∙ same_length _ os _ says.typed

    no_action : IsAtFault w (line_entry d) kinds.NotAbstract → ⊥
    no_action (n, a, is, names) = let named' : task_named w d.name ≡ Some (compound t) = says.name in cc

    its_task : IsAtFault w (line_entry d) kinds.OtherTask → ⊥
    its_task (n, u, x, is, names, of, other) =
        let named' : task_named w d.name ≡ Some (compound t) = says.name in
        let task : t ≡ u = cc in
        let name : d.method ≡ n = cc in
        let numbered' : method_of w (Some d.method) ≡ Some m = rw method numbered in
        let of' : method_of w (Some d.method) ≡ Some x = subst (λ n. method_of w (Some n) ≡ Some x) (sym name) of in
        let method' : m ≡ x = cc in
        other (subst (λ y. IsForTask y.task u) method' (subst (λ u. IsForTask m.task u) task is_for))

-- an object that is not of its type
pub one_not_of : (w : World) (os ts : List ℕ) (i : ℕ) (d e : ℕ) → i < length os → (Of w.typing (get_or os i d) (get_or ts i e) → ⊥) → AreOf w.typing os ts → ⊥
one_not_of w os ts i d e lt not all = not (AllZip-get_or (λ o t. Of w.typing o t) os ts i d e all lt)

pub not_true : (b : Bool) → b ≡ false → b ≡ true → ⊥
not_true b f t = cc

-- a name is at a place within its list
pub place_within : (ns : List (List ℕ)) (n : List ℕ) (i : ℕ) → place_in ns n ≡ Some i → i < length ns
place_within [] n i e = cc
place_within (m ∷ ms) n i e = go (bytes_eq n m) (place_in ms n) refl e (λ j q. place_within ms n j q)
  where
    go : (b : Bool) (o : Option ℕ) → place_in ms n ≡ o → (if b then Some 0 else option_map suc o) ≡ Some i
        → ((j : ℕ) → place_in ms n ≡ Some j → j < length ms) → i < suc (length ms)
    go true o p q again = let z : 0 ≡ i = cc in omega arith
    go false None p q again = cc
    go false (Some j) p q again = let z : suc j ≡ i = cc in let lt : j < length ms = again j p in omega arith

-- the method of a name
pub method_of_name : (w : World) (n : List ℕ) (v : ℕ) → method_named w n ≡ Some v → (m : Method) × (slice_get w.methods v ≡ Some m)
method_of_name w n v e = member_at w.methods v (subst (λ k. v < k) (length-map w.methods (λ m. word_of m.name)) (place_within (method_names w.methods) n v e))

-- a decomposition line of a method that was found not to be for the task
pub not_for_task : (w : World) (d : text.Decomposition) (t v : ℕ) (os : List ℕ) → task_named w d.name ≡ Some (compound t)
    → method_named w d.method ≡ Some v → AreObjects w d.arguments os → AreOf w.typing os (parameters_of w (compound t))
    → (MatchOption (slice_get w.methods v) ⊥ (λ m. IsForTask m.task t) → ⊥) → IsSmallest w (line_entry d) kinds.OtherTask
not_for_task w d t v os named method found typed not =
    let (m, numbered) = method_of_name w d.method v method in
    method_of_other w d t v m os named method numbered found typed (λ is_for. not (rw numbered is_for))

pub decomposed_has_no_fault : (w : World) (d : text.Decomposition) (x : Decomposed) → IsDecomposed w d x → (k : CauseKind) → IsAtFault w (line_entry d) k → ⊥
decomposed_has_no_fault w d x says =
    let (m, numbered) = method_of_name w d.method x.method says.named in
    line_has_no_fault w d x.task x.method m x.objects says.says says.named numbered (rw numbered at says.is_for)

-- an object that is not of its type, where objects and types are the code's
pub one_not_of_type : (w : World) (xs : List ObjectId) (ts : List TypeId) (i : ℕ) (d : ObjectId) (e : TypeId) → i < length xs → length xs ≡ length ts
    → (Of w.typing (get_or xs i d).0 (get_or ts i e).0 → ⊥) → AreOf w.typing (map object_number xs) (map type_number ts) → ⊥
one_not_of_type w xs ts i d e lt same not all =
    let lt' : i < length ts = omega arith in
    let inside : i < length (map object_number xs) = rw (length-map xs object_number) lt in
    let o : get_or (map object_number xs) i 0 ≡ (get_or xs i d).0 = get_or-map object_number xs i d 0 lt in
    let t : get_or (map type_number ts) i 0 ≡ (get_or ts i e).0 = get_or-map type_number ts i e 0 lt' in
    one_not_of w (map object_number xs) (map type_number ts) i 0 0 inside
    (λ of. not (subst (λ a. Of w.typing a (get_or ts i e).0) o (subst (λ b. Of w.typing (get_or (map object_number xs) i 0) b) t of))) all
