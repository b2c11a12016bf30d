-- What is learned is right, and less is left to be learned.
use Rattle.std.proofs.Common.{◌≡◌, ℕ, zero, suc, ◌+◌, ◌<◌, ◌≤◌, ◌⊎◌, inl, inr, ◌∙◌, true, false, List, [], length, slice_get, refl, sym, ap, subst, arith, Option, Some, None, is_some, if◌then◌else◌}
use Rattle.std.specs.Global.{Vec}
use Rattle.std.specs.List.{slice_set}
use Rattle.std.proofs.lemmas.Bool.{cases_lt}
use Rattle.std.proofs.Math.Seq.{set_out}
use Rattle.std.specs.BTreeMap.{BTreeMap, get}
use Rattle.hv_lists.proofs.Options.{not_some, same_some}
use Rattle.hv_order.proofs.Members.{SameNumber, equal_numbers, other_numbers, number_cases}
use Rattle.hv_order.specs.inside.Facts.{Facts, IsNodeRun}
use Rattle.hv_order.specs.inside.Memos.{pair_cmp, spanned, or_else, found, as_finish, AreKnown, SameRuns, IsRemembered, OnlyTaken, IsTakenRun, Keeps, LiesIn, total, to_learn}
use Rattle.hv_order.specs.inside.Nodes.{IsSettled}
use Rattle.hv_order.specs.inside.Walks.{said_of}
use Rattle.hv_order.specs.declared.trial.Finish.TheVariants as finishes
use Rattle.hv_order.specs.declared.trial.Run.{Run}
use Rattle.hv_order.specs.declared.memo.Memo.{Memo}
use Rattle.hv_order.specs.declared.memo.Pair.{Pair}
use Rattle.hv_order.specs.declared.memo.Span.{Span}
use Rattle.hv_order.specs.declared.memo.Won.{Won}
use Rattle.hv_order.specs.declared.settle.Settled.{Settled}
use Rattle.hv_order.proofs.Visiting.{said_here, said_else}

-- a run is one from each of its starts on
later_run : (q : Facts) (v s : ℕ) (r : Run) → IsNodeRun q v s r → (w x : ℕ) (u : Run) → LiesIn v s r w x → u ≡ r → IsNodeRun q w x u
later_run q v s r is w x u lies same = subst (λ k. IsNodeRun q k x u) (sym lies.node) (subst (IsNodeRun q v x) (sym same) (record {
  begun = lies.early;
  within = is.within;
  least = λ y late early. is.least y (omega (arith, late, lies.late)) early;
}))

pub learned : (q : Facts) (size : ℕ) (m m' : Memo) (v s : ℕ) (r : Run) → AreKnown q size m → Keeps m m' v s r → m'.won ≡ m.won → IsNodeRun q v s r → AreKnown q size m'
learned q size m m' v s r are keeps same is = record {
  room = subst (λ k. size ≤ k) (sym keeps.room) are.room;
  right = λ w x u e. tell w x u (keeps.only w x u e);
  won = λ w x e. are.won w x (let P : Vec (Option Won) → Type 0 = λ k. said_of k.items w ≡ Some x in subst P same e);
}
  where
    tell : (w x : ℕ) (u : Run) → (found m w x ≡ Some u) ⊎ (LiesIn v s r w x × (u ≡ r)) → IsNodeRun q w x u
    tell w x u (inl was) = are.right w x u was
    tell w x u (inr (lies, same)) = later_run q v s r is w x u lies same

-- a sum of what is no more is no more
total_most : (f g : ℕ → ℕ) → ((k : ℕ) → f k ≤ g k) → (n : ℕ) → total f n ≤ total g n
total_most f g most zero = omega arith
total_most f g most (suc n) = let a = total_most f g most n in let b = most n in omega (arith, a, b)

-- and where one of its parts is less by d, so is the sum
total_less : (f g : ℕ → ℕ) (i d : ℕ) → ((k : ℕ) → f k ≤ g k) → f i + d ≤ g i → (n : ℕ) → i < n → total f n + d ≤ total g n
total_less f g i d most less zero lt = absurd (omega (arith, lt))
total_less f g i d most less (suc n) lt = tell (number_cases i n) (λ below. total_less f g i d most less n below)
  where
    tell : SameNumber i n → (i < n → total f n + d ≤ total g n) → total f (suc n) + d ≤ total g (suc n)
    tell (equal_numbers e t) before =
        let a = total_most f g most n in
        let b : f n + d ≤ g n = subst (λ k. f k + d ≤ g k) e less in
        omega (arith, a, b)
    tell (other_numbers e t) before =
        let below : i < n = omega (arith, lt, e) in
        let a = before below in let b = most n in omega (arith, a, b)

-- what one pair adds
abbrev weight : ℕ → Option Run → ℕ
weight size o = if is_some o then 0 else size

weight_most : (size : ℕ) (o o' : Option Run) → (is_some o ≡ true → is_some o' ≡ true) → weight size o' ≤ weight size o
weight_most size None None kept = omega arith
weight_most size None (Some r) kept = omega arith
weight_most size (Some u) None kept = absurd (let k : false ≡ true = kept refl in cc)
weight_most size (Some u) (Some r) kept = omega arith

weight_less : (size : ℕ) (o o' : Option Run) → o ≡ None → is_some o' ≡ true → weight size o' + size ≤ weight size o
weight_less size None None e now = absurd (let k : false ≡ true = now in cc)
weight_less size None (Some r) e now = omega arith
weight_less size (Some u) o' e now = absurd (let k : Some u ≡ None = e in cc)

-- nothing is forgotten: no more is left to be learned
pub no_more : (last size : ℕ) (m m' : Memo) → ((w x : ℕ) → is_some (found m w x) ≡ true → is_some (found m' w x) ≡ true) → to_learn last size m' ≤ to_learn last size m
no_more last size m m' kept =
    total_most (λ w. total (λ x. weight size (found m' w x)) (suc last)) (λ w. total (λ x. weight size (found m w x)) (suc last))
    (λ w. total_most (λ x. weight size (found m' w x)) (λ x. weight size (found m w x)) (λ x. weight_most size (found m w x) (found m' w x) (kept w x)) (suc last)) size

-- and where a pair is known that was not, less by as much as there are nodes
pub less_left : (last size : ℕ) (m m' : Memo) (v s : ℕ) → ((w x : ℕ) → is_some (found m w x) ≡ true → is_some (found m' w x) ≡ true) → v < size → s ≤ last → found m v s ≡ None → is_some (found m' v s) ≡ true
    → to_learn last size m' + size ≤ to_learn last size m
less_left last size m m' v s kept lt le was now =
    let most : (w x : ℕ) → weight size (found m' w x) ≤ weight size (found m w x) = λ w x. weight_most size (found m w x) (found m' w x) (kept w x) in
    total_less (λ w. total (λ x. weight size (found m' w x)) (suc last)) (λ w. total (λ x. weight size (found m w x)) (suc last)) v size
    (λ w. total_most (λ x. weight size (found m' w x)) (λ x. weight size (found m w x)) (most w) (suc last))
    (total_less (λ x. weight size (found m' v x)) (λ x. weight size (found m v x)) s size (most v) (weight_less size (found m v s) (found m' v s) was now) (suc last) (omega (arith, le))) size lt

-- what is known is right
pub known_run : (q : Facts) (size : ℕ) (m : Memo) → AreKnown q size m → (v s : ℕ) (r : Run) → as_finish (found m v s) ≡ finishes.Known r → IsNodeRun q v s r
known_run q size m are v s r e = are.right v s r (tell (found m v s) e)
  where
    tell : (o : Option Run) → as_finish o ≡ finishes.Known r → o ≡ Some r
    tell None k = absurd cc
    tell (Some u) k = cc

-- what is known of all starts is what was
same_found : (m m' : Memo) → SameRuns m m' → (v s : ℕ) → found m' v s ≡ found m v s
same_found m m' same v s =
    let p : Pair = record { node = v; start = s } in
    ap (λ (k : Vec Span). or_else (spanned (slice_get k.items v) s) (get pair_cmp m'.more p)) same.spans
    ∙ ap (λ (k : BTreeMap Pair Run). or_else (spanned (slice_get m.spans.items v) s) (get pair_cmp k p)) same.more

still_right : (q : Facts) (size : ℕ) (m m' : Memo) → AreKnown q size m → SameRuns m m' → ((v : ℕ) (w : Won) → said_of m'.won.items v ≡ Some w → IsSettled q v w.start w.settled) → AreKnown q size m'
still_right q size m m' are same won =
    let as_many : length m'.spans.items ≡ length m.spans.items = ap (λ (k : Vec Span). length k.items) same.spans in
    record {
      room = subst (λ k. size ≤ k) (sym as_many) are.room;
      right = λ v s r e. are.right v s r (sym (same_found m m' same v s) ∙ e);
      won = won;
    }

abbrev as_won : ℕ → Settled → Won
as_won s r = record { start = s; settled = r }

-- a winner is kept, where there is a place for it
pub remembered : (q : Facts) (size : ℕ) (m m' : Memo) (v s : ℕ) (r : Settled) → AreKnown q size m → SameRuns m m' → IsRemembered m m' v s r → IsSettled q v s r → AreKnown q size m'
remembered q size m m' v s r are same kept is =
    still_right q size m m' are same (λ w x e. by w x (number_cases w v) (sym (ap (λ k. said_of k w) kept) ∙ e))
  where
    new : List (Option Won)
    new = slice_set m.won.items v (Some (as_won s r))

    here : (x : Won) → said_of new v ≡ Some x → (v < length m.won.items) ⊎ (length m.won.items ≤ v) → IsSettled q v x.start x.settled
    here x said (inl lt) =
        let one : as_won s r ≡ x = same_some (as_won s r) x (sym (said_here m.won.items v (Some (as_won s r)) lt) ∙ said) in
        let Q : Won → Type 0 = λ y. IsSettled q v y.start y.settled in
        subst Q one is
    here x said (inr le) = are.won v x (sym (ap (λ k. said_of k v) (set_out m.won.items v (Some (as_won s r)) le)) ∙ said)

    by : (w : ℕ) (x : Won) → SameNumber w v → said_of new w ≡ Some x → IsSettled q w x.start x.settled
    by w x (equal_numbers e t) said =
        let P : ℕ → Type 0 = λ k. said_of new k ≡ Some x in
        let R : ℕ → Type 0 = λ k. IsSettled q k x.start x.settled in
        subst R (sym e) (here x (subst P e said) (cases_lt v (length m.won.items)))
    by w x (other_numbers e t) said = are.won w x (sym (said_else m.won.items v w (Some (as_won s r)) e) ∙ said)

-- one may be taken
pub still_known : (q : Facts) (size : ℕ) (m m' : Memo) → AreKnown q size m → SameRuns m m' → OnlyTaken m m' → AreKnown q size m'
still_known q size m m' are same only = still_right q size m m' are same (λ v w e. are.won v w (only.won v w e))

pub none_left : (m m' : Memo) → m'.won.items ≡ [] → OnlyTaken m m'
none_left m m' none = record { won = λ v w at. absurd (not_some w (sym (ap (λ won. said_of won v) none) ∙ at)) }

pub only_taken : (m m' : Memo) (v : ℕ) → v < length m.won.items → m'.won.items ≡ slice_set m.won.items v None → OnlyTaken m m'
only_taken m m' v lt is = record { won = λ w x said. by w x (number_cases w v) (sym (ap (λ k. said_of k w) is) ∙ said) }
  where
    by : (w : ℕ) (x : Won) → SameNumber w v → said_of (slice_set m.won.items v None) w ≡ Some x → said_of m.won.items w ≡ Some x
    by w x (equal_numbers e t) said =
        let P : ℕ → Type 0 = λ k. said_of (slice_set m.won.items v None) k ≡ Some x in
        absurd (not_some x (sym (said_here m.won.items v None lt) ∙ subst P e said))
    by w x (other_numbers e t) said = sym (said_else m.won.items v w None e) ∙ said

-- and the one that was taken is a run from a start on that lies in it
pub taken_settled : (q : Facts) (size : ℕ) (m : Memo) → AreKnown q size m → (v s : ℕ) (r : Settled) → IsTakenRun m v s r → IsSettled q v s r
taken_settled q size m are v s r taken =
    let is = are.won v (record { start = taken.start; settled = r }) taken.kept in
    let late = taken.late in
    record {
      run = record { begun = taken.early; within = is.run.within; least = λ x a b. is.run.least x (omega (arith, a, late)) b };
      winner = is.winner;
    }

-- where only winners are kept or taken, as much is known as before
pub keeps_still : (m m' m'' : Memo) (v s : ℕ) (r : Run) → Keeps m m' v s r → SameRuns m' m'' → Keeps m m'' v s r
keeps_still m m' m'' v s r keeps same = record {
  room = ap (λ (k : Vec Span). length k.items) same.spans ∙ keeps.room;
  kept = λ w x e. ap is_some (same_found m' m'' same w x) ∙ keeps.kept w x e;
  only = λ w x u e. keeps.only w x u (sym (same_found m' m'' same w x) ∙ e);
}

pub known_still : (m m' : Memo) → SameRuns m m' → (v s : ℕ) → is_some (found m v s) ≡ true → is_some (found m' v s) ≡ true
known_still m m' same v s e = ap is_some (same_found m m' same v s) ∙ e
