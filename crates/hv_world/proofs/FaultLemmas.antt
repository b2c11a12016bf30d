-- The first of faults.
use Rattle.std.proofs.Common.{◌≡◌, ℕ, ◌+◌, ◌≤◌, ◌<◌, nat_le, Bool, true, false, List, [], ◌∷◌, ◌++◌, map, length, drop, get_or, Option, Some, None, refl, ap, sym, ◌∙◌, arith, if◌then◌else◌}
use Rattle.std.specs.List.{flat_map}
use Rattle.std.specs.Prelude.{MatchOption}
use Rattle.std.proofs.lemmas.List.{drop_more, drop_all}
use Rattle.std.proofs.lemmas.List.Elements.{All-cons, All-nil, All-weaker, Contains-append_right}
use Rattle.std.proofs.lemmas.Bool.{leb-true}
use Rattle.std.proofs.lemmas.Grind.{common_steps}
use Rattle.std.proofs.lemmas.Bool.Decides.{nat_tests}
use Rattle.hv_syntax.specs.Values.{WordAt}
use Rattle.hv_world.specs.declared.fault.StaticKind.{StaticKind}
use Rattle.hv_world.specs.declared.fault.Side.{Side}
use Rattle.hv_world.specs.declared.fault.StaticFault.{StaticFault}
use Rattle.hv_world.specs.Faults.{fault_if, earlier, least, IsFirst}
use Rattle.hv_world.specs.StaticRules.{at_word_if}

start_cases : (f g : StaticFault) (b : Bool) → nat_le f.span.start g.span.start ≡ b → (if b then Some f else Some g) ≡ earlier (Some f) (Some g)
start_cases f g b e = rw e refl

pub earlier-none_right : (a : Option StaticFault) → earlier a None ≡ a
earlier-none_right None = refl
earlier-none_right (Some f) = refl

module _ (f g h : StaticFault) where
  three : (b c d : Bool) → nat_le f.span.start g.span.start ≡ b → nat_le g.span.start h.span.start ≡ c → nat_le f.span.start h.span.start ≡ d
      → earlier (earlier (Some f) (Some g)) (Some h) ≡ earlier (Some f) (earlier (Some g) (Some h))
  three true true true p q r = rw (p, q, p, r) refl
  three true true false p q r =
      let x : f.span.start ≤ g.span.start = leb-true _ _ p in
      let y : g.span.start ≤ h.span.start = leb-true _ _ q in
      absurd (grind (arith, nat_tests, x, y, r))
  three true false true p q r = rw (p, q, r) refl
  three true false false p q r = rw (p, q, r) refl
  three false true true p q r = rw (p, q, p) refl
  three false true false p q r = rw (p, q, p) refl
  three false false true p q r = absurd (grind (arith, nat_tests, p, q, r))
  three false false false p q r = rw (p, q, r) refl

-- none of two is there where the earlier is not
pub none_both : (a b : Option StaticFault) → earlier a b ≡ None → (a ≡ None) × (b ≡ None)
none_both None b e = (refl, e)
none_both (Some f) None e = absurd (cc)
none_both (Some f) (Some g) e = absurd (picked (nat_le f.span.start g.span.start) e)
  where
    picked : (b : Bool) → (if b then Some f else Some g) ≡ None → ⊥
    picked true e = absurd (cc)
    picked false e = absurd (cc)

pub earlier_assoc : (a b c : Option StaticFault) → earlier (earlier a b) c ≡ earlier a (earlier b c)
earlier_assoc None b c = refl
earlier_assoc (Some f) None c = refl
earlier_assoc (Some f) (Some g) None = earlier-none_right (earlier (Some f) (Some g))
earlier_assoc (Some f) (Some g) (Some h) = three f g h _ _ _ refl refl refl

pub least-append : (fs gs : List StaticFault) → least (fs ++ gs) ≡ earlier (least fs) (least gs)
least-append [] gs = refl
least-append (f ∷ fs) gs = ap (earlier (Some f)) (least-append fs gs) ∙ sym (earlier_assoc (Some f) (least fs) (least gs))

pub least-both : (fs gs : List StaticFault) (a b : Option StaticFault) → a ≡ least fs → b ≡ least gs → earlier a b ≡ least (fs ++ gs)
least-both fs gs a b p q = (λ i. earlier (p i) (q i)) ∙ sym (least-append fs gs)

pub least-if : (b : Bool) (k : StaticKind) (s : Side) (w : WordAt) → fault_if b k s w ≡ least (at_word_if b k s w)
least-if true k s w = refl
least-if false k s w = refl

-- the part of a value that comes next of those that are left
pub faults_left : {Y : Type 0} (faults : Y → List StaticFault) (left rest : List Y) (y : Y) (found this next all : Option StaticFault) → left ≡ y ∷ rest
    → this ≡ least (faults y) → next ≡ earlier found this → earlier found (least (flat_map faults left)) ≡ all → earlier next (least (flat_map faults rest)) ≡ all
faults_left faults left rest y found this next all split this_is next_is so_far =
    ap (λ a. earlier a (least (flat_map faults rest))) (next_is ∙ ap (earlier found) this_is)
    ∙ earlier_assoc found (least (faults y)) (least (flat_map faults rest))
    ∙ ap (earlier found) (sym (least-append (faults y) (flat_map faults rest)))
    ∙ ap (λ ys. earlier found (least (flat_map faults ys))) (sym split) ∙ so_far

-- the loop over the parts of a value
module _ {X Y : Type 0} (view : X → Y) (faults : Y → List StaticFault) where
  abbrev pub of_all : List X → Option StaticFault
  of_all xs = least (flat_map faults (map view xs))

  pub faults_next : (xs : List X) (i : ℕ) (x : X) (found this next all : Option StaticFault) → i < length xs → x ≡ get_or xs i x
      → this ≡ least (faults (view x)) → next ≡ earlier found this → earlier found (of_all (drop i xs)) ≡ all → earlier next (of_all (drop (i + 1) xs)) ≡ all
  faults_next xs i x found this next all lt is this_is next_is so_far =
      let split : drop i xs ≡ x ∷ drop (i + 1) xs = drop_more xs i x lt ∙ ap (λ y. y ∷ drop (i + 1) xs) (sym is) in
      faults_left faults (map view (drop i xs)) (map view (drop (i + 1) xs)) (view x) found this next all (ap (map view) split) this_is next_is so_far

  pub faults_end : (xs : List X) (i : ℕ) (found all : Option StaticFault) → length xs ≤ i → earlier found (of_all (drop i xs)) ≡ all → found ≡ all
  faults_end xs i found all le so_far = sym (earlier-none_right found) ∙ ap (λ ys. earlier found (of_all ys)) (sym (drop_all i xs le)) ∙ so_far

-- the first of faults is one of them, and stands before all
first_cons : (f : StaticFault) (fs : List StaticFault) (o : Option StaticFault) → MatchOption o (fs ≡ []) (IsFirst fs)
    → MatchOption (earlier (Some f) o) (f ∷ fs ≡ []) (IsFirst (f ∷ fs))
first_cons f fs None is_empty = record {
  is_one = (0, rw is_empty (omega arith), refl);
  stands_first = rw is_empty (All-cons (λ g. f.span.start ≤ g.span.start) f [] (omega arith) (All-nil (λ g. f.span.start ≤ g.span.start)));
}
first_cons f fs (Some g) h = picked (nat_le f.span.start g.span.start) refl
  where
    picked : (b : Bool) → nat_le f.span.start g.span.start ≡ b → MatchOption (if b then Some f else Some g) (f ∷ fs ≡ []) (IsFirst (f ∷ fs))
    picked true e =
        let le : f.span.start ≤ g.span.start = leb-true _ _ e in record {
          is_one = (0, grind (arith, common_steps), refl);
          stands_first = All-cons (λ x. f.span.start ≤ x.span.start) f fs (omega arith) (All-weaker (λ x. g.span.start ≤ x.span.start) (λ x. f.span.start ≤ x.span.start) (λ x b. omega (arith, le, b)) fs h.stands_first);
        }
    picked false e =
        let le : g.span.start ≤ f.span.start = grind (arith, nat_tests, e) in record {
          is_one = Contains-append_right (f ∷ []) fs g h.is_one;
          stands_first = All-cons (λ x. g.span.start ≤ x.span.start) f fs le h.stands_first;
        }

pub least_first : (fs : List StaticFault) → MatchOption (least fs) (fs ≡ []) (IsFirst fs)
least_first [] = refl
least_first (f ∷ fs) = first_cons f fs (least fs) (least_first fs)
