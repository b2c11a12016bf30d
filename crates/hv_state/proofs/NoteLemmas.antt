-- Changes that are noted on the way of a plan.
use Rattle.std.proofs.Common.{◌≡◌, ◌<◌, ◌≤◌, ◌+◌, ◌++◌, ◌↔◌, ◌⊎◌, inl, inr, ℕ, zero, suc, Bool, true, false, true≢false, IsTrue, bytes_eq, nat_le, List, [], ◌∷◌, length, map, drop, get_or, slice_get, Option, None, Some, if◌then◌else◌, refl, sym, ap, ◌∙◌, subst, arith}
use mathlib.Core.Bool.{beq, not}
use Rattle.std.specs.List.{Contains}
use Rattle.std.specs.Cmp.Lexicographic.{bytes_decides}
use Rattle.std.proofs.lemmas.Bool.{cases_lt}
use Rattle.std.proofs.lemmas.List.{length-append, at_drop_more}
use Rattle.hv_lists.proofs.Bools.{if_true}
use Rattle.hv_lists.proofs.Contained.{contains_first, in_tail, none_in_empty}
use Rattle.hv_world.specs.Bindings.{GroundAtom, GroundAction}
use Rattle.hv_world.specs.Effects.{Adds, Deletes}
use Rattle.hv_world.specs.Worlds.{World, Action}
use Rattle.hv_world.specs.Values.{Formula}
use Rattle.hv_state.specs.Truth.{IsDecided, True}
use Rattle.hv_state.specs.Atoms.{Atoms, Same, After, row_of}
use Rattle.hv_state.specs.inside.Rows.{IsRowOf, HasSameRows}
use Rattle.hv_state.specs.Plans.{Plan, AfterAction, StateAt, IsApplicableIn, IsApplicable, StopsAt}
use Rattle.hv_state.specs.Changes.{Change, Stays, AreChanges, none_yet, stays, turns, told, Tells, TrueAfter}
use Rattle.hv_state.specs.inside.Histories.{Table, beside, rows_of, kept}
use Rattle.hv_state.specs.inside.Notes.{TouchedBy, TouchedIn, AreDone, Before, IsTurned, Turns, IsOn, IsSet, IsReady, IsPassed, IsRecorded}
use Rattle.hv_state.proofs.RowLemmas.{contains_cases}
use Rattle.hv_state.proofs.StateLemmas.{same_atom, atom_listed, row_listed}
use Rattle.hv_state.proofs.PlanLemmas.{read_there, applies, acted, applicable_same, applicable_if, only_if, same_back, same_through, after_same, next_state, push_at, deleted_is_not, other_stays}
use Rattle.hv_state.proofs.GrowLemmas.{empty_rows}
use Rattle.hv_state.proofs.ChangeLemmas.{told_push, is_from, late, Says, tells}

-- whether a list has an atom
pub row_decided : (xs : List (List ℕ)) (x : List ℕ) → Contains xs x ⊎ (Contains xs x → ⊥)
row_decided [] x = inr (none_in_empty x)
row_decided (y ∷ ys) x = by (bytes_eq x y) (bytes_decides x y).0 (bytes_decides x y).1 (row_decided ys x)
  where
    by : (b : Bool) → (b ≡ true → x ≡ y) → (x ≡ y → b ≡ true) → Contains ys x ⊎ (Contains ys x → ⊥) → Contains (y ∷ ys) x ⊎ (Contains (y ∷ ys) x → ⊥)
    by true is not rest = inl (subst (λ z. Contains (z ∷ ys) x) (is refl) (contains_first x ys))
    by false is not (inl m) = inl (in_tail y ys x m)
    by false is not (inr out) = inr (λ m. elim (contains_cases x y ys m) [ inl e ↦ true≢false (sym (not e)) | inr l ↦ out l ])

pub decided : (gs : List GroundAtom) (g : GroundAtom) → Contains gs g ⊎ (Contains gs g → ⊥)
decided gs g = elim (row_decided (map row_of gs) (row_of g)) [ inl m ↦ inl (atom_listed gs g m) | inr out ↦ inr (λ m. out (row_listed gs g m)) ]

longer : (cs : List Change) (c : Change) → cs ++ c ∷ [] ≡ cs → ⊥
longer cs c e = let same : length (cs ++ c ∷ []) ≡ length cs = ap length e in omega (arith, same, length-append cs (c ∷ []))

-- whether an answer says what is so
pub answers_agree : {W : Type 0} (b c : Bool) → IsTrue b ↔ W → b ≡ c → W ↔ IsTrue c
answers_agree {W} b c is e = subst (λ x. W ↔ IsTrue x) e (is.1, is.0)

pub answers_differ : {W : Type 0} (b c : Bool) → IsTrue b ↔ W → (b ≡ c → ⊥) → (W ↔ IsTrue c) → ⊥
answers_differ true true is out same = out refl
answers_differ true false is out same = true≢false (sym (same.0 (is.0 refl)))
answers_differ false true is out same = true≢false (sym (is.1 (same.1 refl)))
answers_differ false false is out same = out refl

abbrev pub Said : Type 0 → Option Bool → Type 0
Said s o = elim o [ None ↦ s | Some b ↦ IsTrue b ]

-- what is told behind one change more
told_last : (cs : List Change) (from : ℕ) (b : Bool) → told from (cs ++ (from, b) ∷ []) ≡ Some b
told_last cs from b = told_push None from cs (from, b) ∙ if_true (nat_le from from) (Some b) (told from cs) (is_from from from (omega arith))

pub tells_last : (s : Type 0) (cs : List Change) (from : ℕ) (b : Bool) → Tells s from (cs ++ (from, b) ∷ []) ↔ IsTrue b
tells_last s cs from b = subst (λ o. Said s o ↔ IsTrue b) (sym (told_last cs from b)) (λ m. m, λ m. m)

pub differ_if : (a b : Bool) → not (beq a b) ≡ true → a ≡ b → ⊥
differ_if true true h e = true≢false (sym h)
differ_if true false h e = true≢false e
differ_if false true h e = true≢false (sym e)
differ_if false false h e = true≢false (sym h)

pub agree_if : (a b : Bool) → not (beq a b) ≡ false → a ≡ b
agree_if true true h = refl
agree_if true false h = absurd (true≢false h)
agree_if false true h = absurd (true≢false h)
agree_if false false h = refl

-- what is said is so, or it is not
pub says_other : {W : Type 0} (b c : Bool) → IsTrue b ↔ W → (b ≡ c → ⊥) → W ↔ (IsTrue c → ⊥)
says_other true true is out = absurd (out refl)
says_other true false is out = (λ w e. true≢false (sym e), λ h. is.0 refl)
says_other false true is out = (λ w e. true≢false (sym (is.1 w)), λ h. absurd (h refl))
says_other false false is out = absurd (out refl)

other_so : {W : Type 0} (b c : Bool) → W ↔ (IsTrue b → ⊥) → (b ≡ c → ⊥) → W ↔ IsTrue c
other_so true true is out = absurd (out refl)
other_so true false is out = (λ w. absurd (is.0 w refl), λ e. absurd (true≢false (sym e)))
other_so false true is out = (λ w. refl, λ e. is.1 (λ f. true≢false (sym f)))
other_so false false is out = absurd (out refl)

same_answer : {W : Type 0} (b c : Bool) → IsTrue b ↔ W → W ↔ IsTrue c → b ≡ c
same_answer true true is so = refl
same_answer true false is so = sym (so.0 (is.0 refl))
same_answer false true is so = is.1 (so.1 refl)
same_answer false false is so = refl

up_to_next : (cs : List Change) (from : ℕ) → Before from cs → Before (from + 1) cs
up_to_next cs from room = λ i d lt. let h = room i d lt in omega (arith, h)

up_to_last : (cs : List Change) (from : ℕ) (b : Bool) → Before from cs → Before (from + 1) (cs ++ (from, b) ∷ [])
up_to_last cs from b room = push_at (λ j c. c.0 < from + 1) cs (from, b) (λ j d lt. let h = room j d lt in omega (arith, h)) (omega arith)

-- one atom's changes, which are as they should be, or have turned
module _ (s : Type 0) (from : ℕ) (said b : Bool) (old new : List Change) (says : (k : ℕ) → Before (k + 1) old → IsTrue said ↔ Tells s k old) (cs : List Change) (room : Before from cs) where
  on_same : said ≡ b → new ≡ old → IsOn s from cs old → IsOn s from cs new × (Tells s from new ↔ IsTrue b)
  on_same e is on = (subst (IsOn s from cs) (sym is) on, subst (λ xs. Tells s from xs ↔ IsTrue b) (sym is) (so on))
    where
      so : IsOn s from cs old → Tells s from old ↔ IsTrue b
      so (inl f) = let h = says from (subst (Before (from + 1)) (sym f) (up_to_next cs from room)) in subst (λ x. Tells s from old ↔ IsTrue x) e (h.1, h.0)
      so (inr (c, f, other)) = let h = says from (subst (Before (from + 1)) (sym f) (up_to_last cs from c room)) in subst (λ x. Tells s from old ↔ IsTrue x) e (h.1, h.0)

  on_turned : (said ≡ b → ⊥) → IsTurned (from, b) old new → IsOn s from cs old → IsOn s from cs new × (Tells s from new ↔ IsTrue b)
  on_turned out turned (inl f) =
      let is : new ≡ cs ++ (from, b) ∷ [] = turned.behind (subst (Before from) (sym f) room) ∙ ap (λ xs. xs ++ (from, b) ∷ []) f in
      let h = says from (subst (Before (from + 1)) (sym f) (up_to_next cs from room)) in
      (inr (b, is, subst (λ xs. Tells s from xs ↔ (IsTrue b → ⊥)) f (says_other said b h out)), subst (λ xs. Tells s from xs ↔ IsTrue b) (sym is) (tells_last s cs from b))
  on_turned out turned (inr (c, f, other)) =
      let is : new ≡ cs = turned.undone cs c f in
      let h = says from (subst (Before (from + 1)) (sym f) (up_to_last cs from c room)) in
      let same : said ≡ c = same_answer said c h (subst (λ xs. Tells s from xs ↔ IsTrue c) (sym f) (tells_last s cs from c)) in
      (inl is, subst (λ xs. Tells s from xs ↔ IsTrue b) (sym is) (other_so c b other (λ e. out (same ∙ e))))

-- no atom is set
pub set_nothing : (start M : Atoms) (from : ℕ) (b : Bool) → ((g : GroundAtom) → M g → ⊥) → (t : Table) → IsSet start M from b t t
set_nothing start M from b out t = record { rows = refl; steps = λ g. inl refl; on = λ g m. absurd (out g m); so = λ g m. absurd (out g m) }

-- the same atoms by other words
pub set_like : (start M N : Atoms) (from : ℕ) (b : Bool) → Same M N → (t u : Table) → IsSet start M from b t u → IsSet start N from b t u
set_like start M N from b same t u set = record { rows = set.rows; steps = λ g. elim (set.steps g) [ inl e ↦ inl e | inr m ↦ inr ((same g).0 m) ]; on = λ g m. set.on g ((same g).1 m); so = λ g m. set.so g ((same g).1 m) }

-- atoms set after others
module _ (start M N : Atoms) (from : ℕ) (b : Bool) (t u v : Table) (first : IsSet start M from b t u) (next : IsSet start N from b u v) where
  row_next : (g : GroundAtom) → Contains (rows_of t) (row_of g) → Contains (rows_of u) (row_of g)
  row_next g = subst (λ rs. Contains rs (row_of g)) (sym first.rows)

  -- where it was on, it is so after the first
  on_first : (g : GroundAtom) → Contains (rows_of t) (row_of g) → (cs : List Change) → Before from cs → IsOn (start g) from cs (kept t g) → IsOn (start g) from cs (kept u g)
  on_first g row cs room on = elim (first.steps g) [ inl e ↦ subst (IsOn (start g) from cs) (sym e) on | inr m ↦ first.on g m row cs room on ]

  both_on : (g : GroundAtom) → M g ⊎ N g → Contains (rows_of t) (row_of g) → (cs : List Change) → Before from cs → IsOn (start g) from cs (kept t g) → IsOn (start g) from cs (kept v g)
  both_on g m row cs room on = elim (next.steps g) [ inl e ↦ subst (IsOn (start g) from cs) (sym e) (on_first g row cs room on) | inr n ↦ next.on g n (row_next g row) cs room (on_first g row cs room on) ]

  both_so : (g : GroundAtom) → M g ⊎ N g → Contains (rows_of t) (row_of g) → (cs : List Change) → Before from cs → IsOn (start g) from cs (kept t g) → Tells (start g) from (kept v g) ↔ IsTrue b
  both_so g m row cs room on = by m (next.steps g)
    where
      later : N g → Tells (start g) from (kept v g) ↔ IsTrue b
      later n = next.so g n (row_next g row) cs room (on_first g row cs room on)

      by : M g ⊎ N g → (kept v g ≡ kept u g) ⊎ N g → Tells (start g) from (kept v g) ↔ IsTrue b
      by (inl l) (inl e) = subst (λ xs. Tells (start g) from xs ↔ IsTrue b) (sym e) (first.so g l row cs room on)
      by (inl l) (inr n) = later n
      by (inr n) s = later n

  pub set_both : IsSet start (λ g. M g ⊎ N g) from b t v
  set_both =
      record {
        rows = next.rows ∙ first.rows;
        steps = λ g. elim (next.steps g) [ inl e ↦ (elim (first.steps g) [ inl f ↦ inl (e ∙ f) | inr m ↦ inr (inl m) ]) | inr n ↦ inr (inr n) ];
        on = both_on;
        so = both_so;
      }

-- one atom set, whose changes were looked at
module _ (start : Atoms) (from : ℕ) (said b : Bool) (a : GroundAtom) (t u : Table) (says : (k : ℕ) → Before (k + 1) (kept t a) → IsTrue said ↔ Tells (start a) k (kept t a)) where
  set_by : rows_of u ≡ rows_of t → ((r : List ℕ) → (beside u r ≡ beside t r) ⊎ (r ≡ row_of a)) → ((cs : List Change) → Before from cs → IsOn (start a) from cs (kept t a) → IsOn (start a) from cs (kept u a) × (Tells (start a) from (kept u a) ↔ IsTrue b)) → IsSet start (λ g. a ≡ g) from b t u
  set_by rows others here =
      record {
        rows = rows;
        steps = λ g. elim (others (row_of g)) [ inl e ↦ inl e | inr e ↦ inr (sym (same_atom g a e)) ];
        on = λ g e row cs room. subst (λ x. IsOn (start x) from cs (kept t x) → IsOn (start x) from cs (kept u x)) e (λ on. (here cs room on).0);
        so = λ g e row cs room. subst (λ x. IsOn (start x) from cs (kept t x) → Tells (start x) from (kept u x) ↔ IsTrue b) e (λ on. (here cs room on).1);
      }

  pub set_same_atom : said ≡ b → IsSet start (λ g. a ≡ g) from b t t
  set_same_atom e =
      record {
        rows = refl;
        steps = λ g. inl refl;
        on = λ g m row cs room on. on;
        so = λ g m row cs room. subst (λ x. IsOn (start x) from cs (kept t x) → Tells (start x) from (kept t x) ↔ IsTrue b) m (λ on. (on_same (start a) from said b (kept t a) (kept t a) says cs room e refl on).1);
      }

  pub set_turned : (said ≡ b → ⊥) → rows_of u ≡ rows_of t → ((r : List ℕ) → (beside u r ≡ beside t r) ⊎ (r ≡ row_of a)) → IsTurned (from, b) (kept t a) (kept u a) → IsSet start (λ g. a ≡ g) from b t u
  set_turned out rows others turned = set_by rows others (λ cs room on. on_turned (start a) from said b (kept t a) (kept u a) says cs room out turned on)

-- an atom that no action touches has no row
pub set_unknown : (start : Atoms) (from : ℕ) (b : Bool) (a : GroundAtom) (t : Table) → (Contains (rows_of t) (row_of a) → ⊥) → IsSet start (λ g. a ≡ g) from b t t
set_unknown start from b a t out =
    record {
      rows = refl;
      steps = λ g. inl refl;
      on = λ g m row cs room on. on;
      so = λ g m row. absurd (out (subst (λ x. Contains (rows_of t) (row_of x)) (sym m) row));
    }

-- deletes set, and then adds
module _ (start gone come : Atoms) (from : ℕ) (t u v : Table) (first : IsSet start gone from false t u) (next : IsSet start come from true u v) (ready : (g : GroundAtom) → gone g ⊎ come g → Contains (rows_of t) (row_of g) × Before from (kept t g)) where
  abbrev Before' : GroundAtom → Type 0
  Before' g = Tells (start g) from (kept t g)

  on_mid : (g : GroundAtom) → gone g ⊎ come g → IsOn (start g) from (kept t g) (kept u g)
  on_mid g m = elim (first.steps g) [ inl e ↦ inl e | inr l ↦ first.on g l (ready g m).0 (kept t g) (ready g m).1 (inl refl) ]

  come_row : (g : GroundAtom) → gone g ⊎ come g → Contains (rows_of u) (row_of g)
  come_row g m = subst (λ rs. Contains rs (row_of g)) (sym first.rows) (ready g m).0

  -- what was added is so, and else what was deleted is not
  came : (g : GroundAtom) → come g → Tells (start g) from (kept v g) ↔ IsTrue true
  came g m = next.so g m (come_row g (inr m)) (kept t g) (ready g (inr m)).1 (on_mid g (inr m))

  went : (g : GroundAtom) → gone g → kept v g ≡ kept u g → Tells (start g) from (kept v g) ↔ IsTrue false
  went g m e = subst (λ xs. Tells (start g) from xs ↔ IsTrue false) (sym e) (first.so g m (ready g (inl m)).0 (kept t g) (ready g (inl m)).1 (inl refl))

  pub after_both : (g : GroundAtom) → IsDecided (gone g) → IsDecided (come g) → Tells (start g) from (kept v g) ↔ After (λ h. Tells (start h) from (kept t h)) gone come g
  after_both g d (inl m) = let so = came g m in (λ h. inr m, λ h. so.1 refl)
  after_both g d (inr off) = by d (next.steps g)
    where
      by : IsDecided (gone g) → (kept v g ≡ kept u g) ⊎ come g → Tells (start g) from (kept v g) ↔ After (λ h. Tells (start h) from (kept t h)) gone come g
      by e (inr m) = absurd (off m)
      by (inl m) (inl e) = let so = went g m e in (λ h. absurd (true≢false (sym (so.0 h))), λ h. absurd (deleted_is_not (λ x. Tells (start x) from (kept t x)) gone come g m off h))
      by (inr out) (inl e) =
          let stay = other_stays (λ x. Tells (start x) from (kept t x)) gone come g out off in
          let same : kept v g ≡ kept t g = e ∙ elim (first.steps g) [ inl f ↦ f | inr m ↦ absurd (out m) ] in
          (λ h. stay.1 (subst (Tells (start g) from) same h), λ h. subst (Tells (start g) from) (sym same) (stay.0 h))

  -- and it is noted where that is otherwise than before
  noted_on : (g : GroundAtom) → IsOn (start g) from (kept t g) (kept v g) → (kept v g ≡ kept t g) ⊎ Turns (Before' g) (Tells (start g) from (kept v g)) from (kept t g) (kept v g)
  noted_on g (inl e) = inl e
  noted_on g (inr (b, is, other)) =
      let so : Tells (start g) from (kept v g) ↔ IsTrue b = subst (λ xs. Tells (start g) from xs ↔ IsTrue b) (sym is) (tells_last (start g) (kept t g) from b) in
      inr (b, is, (so.1, so.0), λ same. apart b other (λ h. so.0 (same.0 h), λ h. same.1 (so.1 h)))
    where
      apart : (b : Bool) → Before' g ↔ (IsTrue b → ⊥) → (Before' g ↔ IsTrue b) → ⊥
      apart true other same = other.0 (same.1 refl) refl
      apart false other same = true≢false (sym (same.0 (other.1 (λ e. true≢false (sym e)))))

  pub noted_both : (g : GroundAtom) → (kept v g ≡ kept t g) ⊎ Turns (Before' g) (Tells (start g) from (kept v g)) from (kept t g) (kept v g)
  noted_both g = by (first.steps g) (next.steps g)
    where
      by : (kept u g ≡ kept t g) ⊎ gone g → (kept v g ≡ kept u g) ⊎ come g → (kept v g ≡ kept t g) ⊎ Turns (Before' g) (Tells (start g) from (kept v g)) from (kept t g) (kept v g)
      by (inl e) (inl f) = inl (f ∙ e)
      by (inr m) (inl f) = noted_on g (subst (IsOn (start g) from (kept t g)) (sym f) (on_mid g (inl m)))
      by s (inr n) = noted_on g (next.on g n (come_row g (inr n)) (kept t g) (ready g (inr n)).1 (on_mid g (inr n)))

-- the changes of the first n actions are before the next index
pub before_next : (p : Plan) (g : GroundAtom) (n : ℕ) (cs : List Change) → AreChanges p g n cs → Before (suc n) cs
before_next p g _ _ none_yet = λ i d lt. absurd (omega (arith, lt))
before_next p g _ _ (stays {n} {cs} are same) = λ i d lt. let h = before_next p g n cs are i d lt in omega (arith, h)
before_next p g _ _ (turns {n} {cs} {b} are out is) = push_at (λ j c. c.0 < suc (suc n)) cs (suc n, b) (λ j d lt. let h = before_next p g n cs are j d lt in omega (arith, h)) (omega arith)

-- what the changes tell, by another start where the same is so
pub tells_from : (p : Plan) (g : GroundAtom) (s : Type 0) → s ↔ StateAt p 0 g → (n : ℕ) (cs : List Change) → AreChanges p g n cs → (k : ℕ) → k ≤ n → Tells s k cs ↔ StateAt p k g
tells_from p g s begun n cs are k le = by (told k cs) (tells p g n cs are k le)
  where
    by : (o : Option Bool) → Says p g k o → Said s o ↔ StateAt p k g
    by None h = (λ m. h.0 (begun.0 m), λ m. begun.1 (h.1 m))
    by (Some b) h = h

-- what the changes of the first n actions tell at the next index is so after these
pub told_here : (p : Plan) (start : Atoms) (t : Table) (n : ℕ) → Same start (StateAt p 0) → ((g : GroundAtom) → AreChanges p g n (kept t g)) → Same (TrueAfter start (kept t) (suc n)) (StateAt p n)
told_here p start t n begun so_far g = subst (λ o. Said (start g) o ↔ StateAt p n g) (sym (late p g n (kept t g) (so_far g) (suc n) (omega arith))) (tells_from p g (start g) (begun g) n (kept t g) (so_far g) n (omega arith))

-- one action more
module _ (p : Plan) (n : ℕ) (a : GroundAction) (there : slice_get p.actions n ≡ Some a) (start : Atoms) (t u : Table) (begun : Same start (StateAt p 0)) (so_far : (g : GroundAtom) → AreChanges p g n (kept t g)) (passed : IsPassed p.world a start (suc n) t u) where
  abbrev Now : Table → Atoms
  Now = λ x. TrueAfter start (kept x) (suc n)

  reached : Same (Now u) (StateAt p (suc n))
  reached =
      let next : n + 1 ≡ suc n = omega arith in
      let done : Same (StateAt p (suc n)) (AfterAction p.world (StateAt p n) a) = subst (λ k. Same (StateAt p k) (AfterAction p.world (StateAt p n) a)) next (next_state p n a there) in
      same_through (Now u) (AfterAction p.world (Now t) a) (StateAt p (suc n)) passed.state
      (same_through (AfterAction p.world (Now t) a) (AfterAction p.world (StateAt p n) a) (StateAt p (suc n)) (after_same p.world (Now t) (StateAt p n) a (told_here p start t n begun so_far)) (same_back (StateAt p (suc n)) (AfterAction p.world (StateAt p n) a) done))

  pub changes_go_on : (g : GroundAtom) → AreChanges p g (suc n) (kept u g)
  changes_go_on g = by (passed.steps g)
    where
      were : Now t g ↔ StateAt p n g
      were = told_here p start t n begun so_far g

      by : (kept u g ≡ kept t g) ⊎ Turns (Now t g) (Now u g) (suc n) (kept t g) (kept u g) → AreChanges p g (suc n) (kept u g)
      by (inl e) =
          let is : Now u g ↔ StateAt p n g = subst (λ xs. Tells (start g) (suc n) xs ↔ StateAt p n g) (sym e) were in
          subst (AreChanges p g (suc n)) (sym e) (stays (so_far g) (λ m. (reached g).0 (is.1 m), λ m. is.0 ((reached g).1 m)))
      by (inr (b, e, is, out)) =
          let turned : Stays p g n → ⊥ = λ s. out (λ m. (reached g).1 (s.0 (were.0 m)), λ m. were.1 (s.1 ((reached g).0 m))) in
          subst (AreChanges p g (suc n)) (sym e) (turns (so_far g) turned (λ m. (reached g).0 (is.0 m), λ m. is.1 ((reached g).1 m)))

-- what one of the actions touches
pub touched_there : (w : World) (xs : List GroundAction) (n : ℕ) (a : GroundAction) → slice_get xs n ≡ Some a → (g : GroundAtom) → TouchedBy w a g → TouchedIn w xs g
touched_there w [] n a e g m = absurd cc
touched_there w (x ∷ xs) zero a e g m = let same : x ≡ a = cc in inl (subst (λ y. TouchedBy w y g) (sym same) m)
touched_there w (x ∷ xs) (suc n) a e g m = inr (touched_there w xs n a e g m)

pub rows_there : (w : World) (xs : List GroundAction) (rows : List (List ℕ)) → ((r : List ℕ) → Contains rows r ↔ IsRowOf (TouchedIn w xs) r) → (n : ℕ) (a : GroundAction) → slice_get xs n ≡ Some a → (g : GroundAtom) → TouchedBy w a g → Contains rows (row_of g)
rows_there w xs rows are n a there g m = (are (row_of g)).1 (g, touched_there w xs n a there g m, refl)

-- the plan as it was recorded up to one of its actions
pub record IsSoFar (p : Plan) (n : ℕ) (start : Atoms) (t : Table) : Type 0 where
  pub begun : Same start (StateAt p 0)
  pub ran : (k : ℕ) → k < n → IsApplicable p k
  pub changes : (g : GroundAtom) → AreChanges p g n (kept t g)
  pub rows : (k : ℕ) (a : GroundAction) → slice_get p.actions k ≡ Some a → (g : GroundAtom) → TouchedBy p.world a g → Contains (rows_of t) (row_of g)

none_either : (b : Bool) (cs : List Change) → cs ≡ [] → (if b then [] else cs) ≡ cs
none_either true cs e = sym e
none_either false cs e = refl

empty_beside : (rows : List (List ℕ)) (row : List ℕ) → beside (map (λ r. (r, [])) rows) row ≡ []
empty_beside [] row = refl
empty_beside (r ∷ rows) row = none_either (bytes_eq row r) (beside (map (λ x. (x, [])) rows) row) (empty_beside rows row) ∙ empty_beside rows row

-- nothing done yet
pub so_far_begun : (p : Plan) (start : Atoms) (t : Table) (rows : List (List ℕ)) → Same start (StateAt p 0) → t ≡ map (λ r. (r, [])) rows → ((r : List ℕ) → Contains rows r ↔ IsRowOf (TouchedIn p.world p.actions) r) → IsSoFar p 0 start t
so_far_begun p start t rows begun is exact =
    record {
      begun = begun;
      ran = λ k lt. absurd (omega (arith, lt));
      changes = λ g. subst (AreChanges p g 0) (sym (ap (λ u. kept u g) is ∙ empty_beside rows (row_of g))) none_yet;
      rows = λ k a there g m. subst (λ u. Contains u (row_of g)) (sym (ap rows_of is ∙ empty_rows rows)) (rows_there p.world p.actions rows exact k a there g m);
    }

-- one action more
module _ (p : Plan) (n : ℕ) (a : GroundAction) (there : slice_get p.actions n ≡ Some a) (start : Atoms) (t : Table) (so_far : IsSoFar p n start t) where
  abbrev Here : Atoms
  Here = TrueAfter start (kept t) (suc n)

  here : Same Here (StateAt p n)
  here = told_here p start t n so_far.begun so_far.changes

  next : n + 1 ≡ suc n
  next = omega arith

  ready : IsReady p.world a (suc n) t
  ready g m = (so_far.rows n a there g m, before_next p g n (kept t g) (so_far.changes g))

  pub so_far_more : (u : Table) → (IsReady p.world a (n + 1) t → IsPassed p.world a start (n + 1) t u) → IsSoFar p (n + 1) start u
  so_far_more u passed = subst (λ m. IsSoFar p m start u) (sym next) (more (subst (λ m. IsReady p.world a m t → IsPassed p.world a start m t u) next passed ready))
    where
      more : IsPassed p.world a start (suc n) t u → IsSoFar p (suc n) start u
      more done =
          record {
            begun = so_far.begun;
            ran = λ k lt. by k (cases_lt k n) (omega (arith, lt));
            changes = changes_go_on p n a there start t u so_far.begun so_far.changes done;
            rows = λ k b is g m. subst (λ rs. Contains rs (row_of g)) (sym done.rows) (so_far.rows k b is g m);
          }
        where
          now : IsApplicable p n
          now = applicable_if p n a there (applicable_same p.world Here (StateAt p n) a here done.applicable)

          by : (k : ℕ) → (k < n) ⊎ (n ≤ k) → k < n + 1 → IsApplicable p k
          by k (inl before_it) lt = so_far.ran k before_it
          by k (inr behind) lt = let is : n ≡ k = omega (arith, behind, lt) in subst (IsApplicable p) is now

  -- or the action that is not applicable
  pub so_far_stops : n < length p.actions → (IsApplicableIn p.world (TrueAfter start (kept t) (n + 1)) a → ⊥) → StopsAt p n
  so_far_stops lt out =
      let not_here : IsApplicableIn p.world Here a → ⊥ = subst (λ m. IsApplicableIn p.world (TrueAfter start (kept t) m) a → ⊥) next out in
      (lt, λ m. not_here (applicable_same p.world (StateAt p n) Here a (same_back Here (StateAt p n) here) (only_if p n a there m)), λ j j_in. so_far.ran j j_in)

-- all actions done
pub so_far_whole : (p : Plan) (n : ℕ) (start : Atoms) (t : Table) → IsSoFar p n start t → n ≡ length p.actions → IsRecorded p start t
so_far_whole p n start t so_far whole = record { begun = so_far.begun; ran = λ k lt. so_far.ran k (omega (arith, lt, whole)); changes = λ g. subst (λ m. AreChanges p g m (kept t g)) whole (so_far.changes g) }

-- a moment of a plan that was recorded
pub moment_is : (p : Plan) (start : Atoms) (t : Table) → IsRecorded p start t → (k : ℕ) → k ≤ length p.actions → Same (TrueAfter start (kept t) k) (StateAt p k)
moment_is p start t recorded k le g = tells_from p g (start g) (recorded.begun g) (length p.actions) (kept t g) (recorded.changes g) k le

-- the actions that are left
pub actions_left : (actions : List GroundAction) (i : ℕ) (a : GroundAction) → slice_get actions i ≡ Some a → drop i actions ≡ a ∷ drop (i + 1) actions
actions_left actions i a there =
    let read = read_there actions i a there in
    at_drop_more (λ xs. xs) actions i a read.0 ∙ ap (λ b. b ∷ drop (i + 1) actions) read.1

pub touched_more : (w : World) (old pushed now : List (List ℕ)) (a : GroundAction) (rest : List GroundAction) (Q : List ℕ → Type 0) → ((r : List ℕ) → Contains pushed r ↔ (Contains old r ⊎ IsRowOf (TouchedBy w a) r)) → HasSameRows pushed now
    → ((r : List ℕ) → (Contains old r ⊎ IsRowOf (TouchedIn w (a ∷ rest)) r) ↔ Q r) → (r : List ℕ) → (Contains now r ⊎ IsRowOf (TouchedIn w rest) r) ↔ Q r
touched_more w old pushed now a rest Q joined same before r = (λ m. (before r).0 (from m), λ q. to ((before r).1 q))
  where
    by_a : Contains old r ⊎ IsRowOf (TouchedBy w a) r → Contains old r ⊎ IsRowOf (TouchedIn w (a ∷ rest)) r
    by_a (inl m) = inl m
    by_a (inr x) = inr (x.0, inl x.1, x.2)

    from : Contains now r ⊎ IsRowOf (TouchedIn w rest) r → Contains old r ⊎ IsRowOf (TouchedIn w (a ∷ rest)) r
    from (inl m) = by_a ((joined r).0 ((same r).0 m))
    from (inr x) = inr (x.0, inr x.1, x.2)

    put : (g : GroundAtom) → row_of g ≡ r → TouchedBy w a g ⊎ TouchedIn w rest g → Contains now r ⊎ IsRowOf (TouchedIn w rest) r
    put g e (inl m) = inl ((same r).1 ((joined r).1 (inr (g, m, e))))
    put g e (inr m) = inr (g, m, e)

    to : Contains old r ⊎ IsRowOf (TouchedIn w (a ∷ rest)) r → Contains now r ⊎ IsRowOf (TouchedIn w rest) r
    to (inl m) = inl ((same r).1 ((joined r).1 (inl m)))
    to (inr x) = put x.0 x.2 x.1

pub get_there : (xs : List GroundAction) (i : ℕ) (d : GroundAction) → i < length xs → slice_get xs i ≡ Some (get_or xs i d)
get_there [] i d lt = absurd (omega (arith, lt))
get_there (x ∷ xs) zero d lt = refl
get_there (x ∷ xs) (suc i) d lt = get_there xs i d (omega (arith, lt))

-- an action that stands before its place too has nothing more to put in
pub joined_again : (w : World) (xs : List GroundAction) (i : ℕ) (rows : List (List ℕ)) (a : GroundAction) → slice_get xs i ≡ Some a → AreDone w xs i rows → (j : ℕ) × (j < i) × (slice_get xs j ≡ slice_get xs i) → (r : List ℕ) → Contains rows r ↔ (Contains rows r ⊎ IsRowOf (TouchedBy w a) r)
joined_again w xs i rows a there done (j, lt, is) r = (λ m. inl m, λ m. elim m [ inl l ↦ l | inr x ↦ subst (Contains rows) x.2 (done j a lt (is ∙ there) x.0 x.1) ])

-- the first actions, and one more
pub done_more : (w : World) (xs : List GroundAction) (i : ℕ) (old pushed now : List (List ℕ)) (a : GroundAction) → slice_get xs i ≡ Some a → ((r : List ℕ) → Contains pushed r ↔ (Contains old r ⊎ IsRowOf (TouchedBy w a) r)) → HasSameRows pushed now → AreDone w xs i old → AreDone w xs (i + 1) now
done_more w xs i old pushed now a there joined same done j b lt is g m = by (cases_lt j i)
  where
    by : (j < i) ⊎ (i ≤ j) → Contains now (row_of g)
    by (inl before) = (same (row_of g)).1 ((joined (row_of g)).1 (inl (done j b before is g m)))
    by (inr behind) =
        let here : i ≡ j = omega (arith, behind, lt) in
        let one : Some b ≡ Some a = sym is ∙ ap (slice_get xs) (sym here) ∙ there in
        let own : b ≡ a = cc in
        (same (row_of g)).1 ((joined (row_of g)).1 (inr (g, subst (λ x. TouchedBy w x g) own m, refl)))

-- what an action touches that the world has, or does not have
abbrev Touches : World → GroundAction → GroundAtom → Option Action → Type 0
Touches w step g found = elim found [ None ↦ ⊥ | Some x ↦ Deletes w.typing step.objects x.effect g ⊎ Adds w.typing step.objects x.effect g ]

pub touched_is : (w : World) (step : GroundAction) (a : Action) → slice_get w.actions step.action ≡ Some a → Same (λ g. Deletes w.typing step.objects a.effect g ⊎ Adds w.typing step.objects a.effect g) (TouchedBy w step)
touched_is w step a there g = subst (λ o. Touches w step g (Some a) ↔ Touches w step g o) (sym there) (λ m. m, λ m. m)

pub touched_not : (w : World) (step : GroundAction) → slice_get w.actions step.action ≡ None → (g : GroundAtom) → TouchedBy w step g → ⊥
touched_not w step lacks g = subst (λ o. Touches w step g o → ⊥) (sym lacks) (λ m. m)

-- an action that the world has, done and noted
module _ (w : World) (step : GroundAction) (a : Action) (there : slice_get w.actions step.action ≡ Some a) (start : Atoms) (from : ℕ) (t u v : Table) (deletes adds : List GroundAtom) where
  abbrev Gone : Atoms
  Gone = Deletes w.typing step.objects a.effect

  abbrev Come : Atoms
  Come = Adds w.typing step.objects a.effect

  module _ (gone : Same (Contains deletes) Gone) (come : Same (Contains adds) Come) (ready : IsReady w step from t) where
    known : (g : GroundAtom) → Contains deletes g ⊎ Contains adds g → Contains (rows_of t) (row_of g) × Before from (kept t g)
    known g (inl m) = ready g ((touched_is w step a there g).0 (inl ((gone g).0 m)))
    known g (inr m) = ready g ((touched_is w step a there g).0 (inr ((come g).0 m)))

    pub passed : (f : Formula) (env : List ℕ) → env ≡ step.objects → f ≡ a.precondition → True w.typing (TrueAfter start (kept t) from) f env → IsSet start (Contains deletes) from false t u → IsSet start (Contains adds) from true u v → IsPassed w step start from t v
    passed f env os fs h first next =
        record {
          applicable = applies w (TrueAfter start (kept t) from) step a there f env fs os h;
          state =
              acted w (TrueAfter start (kept t) from) step a there (TrueAfter start (kept v) from) (Contains deletes) (Contains adds) gone come
              (λ g. after_both start (Contains deletes) (Contains adds) from t u v first next known g (decided deletes g) (decided adds g));
          rows = next.rows ∙ first.rows;
          steps = noted_both start (Contains deletes) (Contains adds) from t u v first next known;
        }
