-- The next change of atoms.
use Rattle.std.proofs.Common.{◌≡◌, ◌<◌, ◌≤◌, ◌+◌, ◌-◌, ◌↔◌, ◌⊎◌, inl, inr, ℕ, suc, true, false, nat_le, List, [], ◌∷◌, length, map, take, get_or, refl, sym, ap, ◌∙◌, subst, arith}
use Rattle.std.specs.List.{Contains}
use Rattle.std.specs.List.Sorted.{IsPartitionPoint}
use Rattle.std.proofs.lemmas.Bool.{cases_lt, leb-true, leb-false}
use Rattle.std.proofs.lemmas.List.{get_or-map, length-map}
use Rattle.std.proofs.lemmas.List.Elements.{Contains-append_left, Contains-push, Contains-push_cases}
use Rattle.hv_world.specs.declared.formula.Formula.{Formula}
use Rattle.hv_world.specs.Bindings.{GroundAtom}
use Rattle.hv_world.specs.Types.{Typing}
use Rattle.hv_world.specs.Values.{formulas_of}
use Rattle.hv_world.specs.Views.{formula_view}
use Rattle.hv_state.specs.declared.history.Change as code
use Rattle.hv_state.specs.Atoms.{Atoms}
use Rattle.hv_state.specs.Truth.{True}
use Rattle.hv_state.specs.Plans.{Plan, StateAt}
use Rattle.hv_state.specs.Changes.{Change, Stays, AreChanges, none_yet, stays, turns, Mentions, SomeMention, IsNextChange, AreFalse, IsFirstTrue}
use Rattle.hv_state.specs.inside.Histories.{Rise, index_of, change_view, Table, kept, IsNext, IsNextIn, IsLeast}
use Rattle.hv_state.specs.inside.Notes.{IsRecorded}
use Rattle.hv_state.proofs.RowLemmas.{some_of}
use Rattle.hv_state.proofs.SomeLemmas.{SomeOf, some_more, some_taken, taken}
use Rattle.hv_state.proofs.ChangeLemmas.{unchanged}

module _ (t : Table) (k end : ℕ) where
  pub next_like : (M N : GroundAtom → Type 0) (j : ℕ) → ((g : GroundAtom) → M g ↔ N g) → IsNext t k end M j → IsNext t k end N j
  next_like M N j e next =
      record { after = next.after; within = next.within; quiet = λ g m. next.quiet g ((e g).1 m); change = λ lt. let c = next.change lt in (c.0, (e c.0).0 c.1, c.2) }

  pub next_none : (M : GroundAtom → Type 0) → k < end → ((g : GroundAtom) → M g → ⊥) → IsNext t k end M end
  next_none M lt out = record { after = lt; within = omega arith; quiet = λ g m. absurd (out g m); change = λ less. absurd (omega (arith, less)) }

  -- atoms without changes have no next one
  pub next_still : (M : GroundAtom → Type 0) → k < end → ((g : GroundAtom) → M g → kept t g ≡ []) → IsNext t k end M end
  next_still M lt still = record { after = lt; within = omega arith; quiet = λ g m c at. (let none = subst (λ cs. Contains cs c) (still g m) at in absurd (omega (arith, none.1))); change = λ less. absurd (omega (arith, less)) }

  pub next_both : (M N : GroundAtom → Type 0) (a b c : ℕ) → IsNext t k end M a → IsNext t k end N b → IsLeast a b c → IsNext t k end (λ g. M g ⊎ N g) c
  next_both M N a b c first other (le, le', one) =
      record {
        after = by one;
        within = omega (arith, le, first.within);
        quiet = λ g m d at past. elim m [ inl x ↦ (let h = first.quiet g x d at past in omega (arith, h, le)) | inr y ↦ (let h = other.quiet g y d at past in omega (arith, h, le')) ];
        change = λ less. which less one;
      }
    where
      by : (c ≡ a) ⊎ (c ≡ b) → k < c
      by (inl e) = omega (arith, e, first.after)
      by (inr e) = omega (arith, e, other.after)

      which : c < end → (c ≡ a) ⊎ (c ≡ b) → (g : GroundAtom) × (M g ⊎ N g) × ((d : Change) × Contains (kept t g) d × (d.0 ≡ c))
      which less (inl e) = let h = first.change (omega (arith, less, e)) in (h.0, inl h.1, (h.2.0, h.2.1, h.2.2 ∙ sym e))
      which less (inr e) = let h = other.change (omega (arith, less, e)) in (h.0, inr h.1, (h.2.0, h.2.1, h.2.2 ∙ sym e))

  module _ {X : Type 0} (P : X → GroundAtom → Type 0) (xs : List X) (i : ℕ) where
    pub next_push : (x : X) (u e c : ℕ) → i < length xs → x ≡ get_or xs i x → IsNext t k end (λ g. SomeOf (λ y. P y g) (take i xs)) u → IsNext t k end (P x) e → IsLeast u e c → IsNext t k end (λ g. SomeOf (λ y. P y g) (take (i + 1) xs)) c
    next_push x u e c lt is so_far next least =
        next_like (λ g. SomeOf (λ y. P y g) (take i xs) ⊎ P x g) (λ g. SomeOf (λ y. P y g) (take (i + 1) xs)) c (λ g. some_more (λ y. P y g) xs i x lt is) (next_both (λ g. SomeOf (λ y. P y g) (take i xs)) (P x) u e c so_far next least)

    -- nothing is nearer than the next index
    pub next_soon : (u : ℕ) → u ≡ k + 1 → IsNext t k end (λ g. SomeOf (λ y. P y g) (take i xs)) u → IsNext t k end (λ g. SomeOf (λ y. P y g) xs) u
    next_soon u soon next =
        record {
          after = next.after;
          within = next.within;
          quiet = λ g m c at later. omega (arith, soon, later);
          change = λ before. (let (g, m, rest) = next.change before in (g, some_taken (λ y. P y g) xs i m, rest));
        }

    pub next_all : (u : ℕ) → length xs ≤ i → IsNext t k end (λ g. SomeOf (λ y. P y g) (take i xs)) u → IsNext t k end (λ g. SomeOf (λ y. P y g) xs) u
    next_all u le = subst (λ ys. IsNext t k end (λ g. SomeOf (λ y. P y g) ys) u) (taken xs i le)

-- the parts of a formula
pub mentioned_parts : (w : Typing) (g : GroundAtom) (env : List ℕ) (xs : List Formula) → SomeOf (λ f. Mentions w g (formula_view f) env) xs ↔ SomeMention w g (formulas_of (map formula_view xs)) env
mentioned_parts w g env [] = (λ m. m, λ m. m)
mentioned_parts w g env (x ∷ xs) =
    let rest = mentioned_parts w g env xs in
    (λ m. elim m [ inl a ↦ inl a | inr b ↦ inr (rest.0 b) ], λ m. elim m [ inl a ↦ inl a | inr b ↦ inr (rest.1 b) ])

-- the changes behind those up to an index
module _ (cs : List code.Change) (k past : ℕ) (rise : Rise (map change_view cs)) (point : IsPartitionPoint (λ c. nat_le (index_of c) k ≡ true) (λ c. nat_le (index_of c) k ≡ false) cs past) where
  -- a change that is behind the index stands behind the others
  stands_behind : (c : Change) (m : Contains (map change_view cs) c) → k < c.0 → past ≤ m.0
  stands_behind c (i, lt, e) after = by (cases_lt i past)
    where
      by : (i < past) ⊎ (past ≤ i) → past ≤ i
      by (inr le) = le
      by (inl before) =
          let in_cs : i < length cs = omega (arith, lt, length-map cs change_view) in
          let d = some_of cs (omega (arith, in_cs)) in
          let up_to : index_of (get_or cs i d) ≤ k = leb-true _ _ (point.0 i d (omega arith) before) in
          let is : index_of (get_or cs i d) ≡ c.0 = ap (λ (x : Change). x.0) (sym (get_or-map change_view cs i d c in_cs) ∙ e) in
          absurd (omega (arith, up_to, is, after))

  pub next_in_none : length cs ≤ past → (end : ℕ) → k < end → IsNextIn (map change_view cs) k end end
  next_in_none long end lt =
      record {
        after = lt;
        within = omega arith;
        quiet = λ c m after. (let le = stands_behind c m after in absurd (omega (arith, le, long, m.1, length-map cs change_view)));
        change = λ less. absurd (omega (arith, less));
      }

  pub next_in_some : (x : code.Change) → past < length cs → x ≡ get_or cs past x → (end j : ℕ) → k < end → IsLeast (index_of x) end j → IsNextIn (map change_view cs) k end j
  next_in_some x x_in is end j lt (le, le', one) = record { after = by one; within = le'; quiet = λ c m after. quiet c m after (cases_lt past m.0); change = λ less. which less one }
    where
      there : (past < length cs) × (get_or cs past x ≡ x)
      there = (x_in, sym is)

      behind : k < index_of x
      behind = leb-false _ _ (subst (λ (y : code.Change). nat_le (index_of y) k ≡ false) there.1 (point.1 past x (omega arith) there.0))

      by : (j ≡ index_of x) ⊎ (j ≡ end) → k < j
      by (inl e) = omega (arith, e, behind)
      by (inr e) = omega (arith, e, lt)

      entry_is : (d : Change) → get_or (map change_view cs) past d ≡ change_view x
      entry_is d = get_or-map change_view cs past x d there.0 ∙ ap change_view there.1

      quiet : (c : Change) (m : Contains (map change_view cs) c) → k < c.0 → (past < m.0) ⊎ (m.0 ≤ past) → j ≤ c.0
      quiet c (i, i_in, e) after (inl more) =
          let below : (get_or (map change_view cs) past c).0 < (get_or (map change_view cs) i c).0 = rise past i c more i_in in
          let first : (get_or (map change_view cs) past c).0 ≡ index_of x = ap (λ (y : Change). y.0) (entry_is c) in
          let last : (get_or (map change_view cs) i c).0 ≡ c.0 = ap (λ (y : Change). y.0) e in
          omega (arith, below, first, last, le)
      quiet c (i, i_in, e) after (inr less) =
          let at_least = stands_behind c (i, i_in, e) after in
          let here : i ≡ past = omega (arith, less, at_least) in
          let first : index_of x ≡ c.0 = ap (λ (y : Change). y.0) (sym (entry_is c) ∙ ap (λ n. get_or (map change_view cs) n c) (sym here) ∙ e) in
          omega (arith, first, le)

      which : j < end → (j ≡ index_of x) ⊎ (j ≡ end) → (c : Change) × Contains (map change_view cs) c × (c.0 ≡ j)
      which less (inl e) = (change_view x, (past, omega (arith, there.0, length-map cs change_view), entry_is (change_view x)), sym e)
      which less (inr e) = absurd (omega (arith, e, less))

-- the next change of one atom
pub next_of_atom : (t : Table) (k end : ℕ) (g : GroundAtom) (cs : List Change) (j : ℕ) → cs ≡ kept t g → IsNextIn cs k end j → IsNext t k end (λ h. g ≡ h) j
next_of_atom t k end g cs j e next =
    record {
      after = next.after;
      within = next.within;
      quiet = λ h same c m past. next.quiet c (subst (λ xs. Contains xs c) (ap (kept t) (sym same) ∙ sym e) m) past;
      change = λ less. (let c = next.change less in (g, refl, (c.0, subst (λ xs. Contains xs c.0) e c.1, c.2)));
    }

pub next_in_nothing : (k end : ℕ) → k < end → IsNextIn [] k end end
next_in_nothing k end lt = record { after = lt; within = omega arith; quiet = λ c m. absurd (omega (arith, m.1)); change = λ less. absurd (omega (arith, less)) }

-- what a change in the list says of the plan
turned_at : (p : Plan) (g : GroundAtom) (n : ℕ) (cs : List Change) → AreChanges p g n cs → (c : Change) → Contains cs c → (i : ℕ) × (i + 1 ≡ c.0) × (Stays p g i → ⊥)
turned_at p g _ _ none_yet c m = absurd (omega (arith, m.1))
turned_at p g _ _ (stays {n} {cs} are same) c m = turned_at p g n cs are c m
turned_at p g _ _ (turns {n} {cs} {b} are out is) c m =
    elim (Contains-push_cases cs (suc n, b) c m) [ inl l ↦ turned_at p g n cs are c l | inr e ↦ (let here : suc n ≡ c.0 = ap (λ d. d.0) e in (n, omega (arith, here), out)) ]

quiet_at : (p : Plan) (g : GroundAtom) (n : ℕ) (cs : List Change) → AreChanges p g n cs → (i : ℕ) → i < n → ((c : Change) → Contains cs c → c.0 ≡ i + 1 → ⊥) → Stays p g i
quiet_at p g _ _ none_yet i lt out = absurd (omega (arith, lt))
quiet_at p g _ _ (stays {n} {cs} are same) i lt out = by (quiet_at p g n cs are i) (cases_lt i n)
  where
    by : (i < n → ((c : Change) → Contains cs c → c.0 ≡ i + 1 → ⊥) → Stays p g i) → (i < n) ⊎ (n ≤ i) → Stays p g i
    by before (inl less) = before less out
    by before (inr le) = let here : n ≡ i = omega (arith, le, lt) in subst (Stays p g) here same
quiet_at p g _ _ (turns {n} {cs} {b} are turned is) i lt out = by (quiet_at p g n cs are i) (cases_lt i n)
  where
    by : (i < n → ((c : Change) → Contains cs c → c.0 ≡ i + 1 → ⊥) → Stays p g i) → (i < n) ⊎ (n ≤ i) → Stays p g i
    by before (inl less) = before less (λ c m e. out c (Contains-append_left cs ((suc n, b) ∷ []) c m) e)
    by before (inr le) = absurd (out (suc n, b) (Contains-push cs (suc n, b)) (omega (arith, le, lt)))

-- the next change of what is kept is that of the plan
pub next_change_is : (p : Plan) (start : Atoms) (t : Table) → IsRecorded p start t → (k : ℕ) (f : _) (env : List ℕ) (j : ℕ) → IsNext t k (length p.actions + 1) (λ g. Mentions p.world.typing g f env) j → IsNextChange p k f env j
next_change_is p start t recorded k f env j next =
    record {
      after = next.after;
      within = next.within;
      quiet = λ i g le lt m. (let ends = next.within in quiet_at p g (length p.actions) (kept t g) (recorded.changes g) i (omega (arith, lt, ends)) (λ c at e. let h = next.quiet g m c at (omega (arith, e, le)) in omega (arith, h, e, lt)));
      change = λ le. (let c = next.change (omega (arith, le)) in let turned = turned_at p c.0 (length p.actions) (kept t c.0) (recorded.changes c.0) c.2.0 c.2.1 in (turned.0, turned.1 ∙ c.2.2, (c.0, c.1, turned.2)));
    }

pub stays_until : (p : Plan) (k : ℕ) (f : _) (env : List ℕ) (j : ℕ) → IsNextChange p k f env j → (i : ℕ) → k ≤ i → i < j → True p.world.typing (StateAt p i) f env ↔ True p.world.typing (StateAt p k) f env
stays_until p k f env j next i le lt =
    let h = unchanged p f env k (i - k) i (omega (arith, le)) (λ n g from to m. next.quiet n g from (omega (arith, to, lt)) m) in
    (h.1, h.0)

-- an index at which a formula is true, behind others at which it is not
pub first_found : (p : Plan) (f : _) (env : List ℕ) (from upto i u : ℕ) → from ≤ i → i ≤ upto → AreFalse p f env from i → True p.world.typing (StateAt p i) f env → IsNextChange p i f env u → IsFirstTrue p f env from upto i (u - 1)
first_found p f env from upto i u after within before here next =
    let some = next.after in
    let whole : u ≡ u - 1 + 1 = omega (arith, some) in
    record {
      after = after;
      within = within;
      before = before;
      order = omega (arith, some);
      stays = λ k le le'. (stays_until p i f env u next k le (omega (arith, le', some))).1 here;
      next = subst (IsNextChange p i f env) whole next;
    }
