use Rattle.std.proofs.Common.{◌≡◌, ◌+◌, ◌↔◌, ℕ, Ok, map, sym, subst, ◌∙◌, IsTrue}
use Rattle.std.specs.List.{Contains}
use Rattle.hv_state.specs.Atoms.{atom_read, row_of}
use Rattle.hv_state.specs.Changes.{Tells}
use Rattle.hv_state.specs.inside.Hashes.{TellRows}
use Rattle.hv_state.specs.inside.Rows.{IsPlace}
use Rattle.hv_state.specs.inside.Histories.{index_of, truth_of, change_view, IsTable, AreFlagged, history_view, rows_of}
use Rattle.hv_state.specs.inside.Notes.{Before, IsSet}
use Rattle.hv_state.proofs.HistoryLemmas.{numbers_are, found_in, not_found_in, changes_beside}
use Rattle.hv_state.proofs.GrowLemmas.{turned_table, turned_rows, turned_here, turned_others}
use Rattle.hv_state.proofs.NoteLemmas.{differ_if, agree_if, set_turned, set_same_atom, set_unknown}
use Rattle.hv_state.proofs.changes.Changes.set.Goals as goal

pub invariant_of-self : goal.invariant_of-self
invariant_of-self g c =
    let hs = c.self.inside.list.items in
    let row = row_of (atom_read c.args.atom.now) in
    let change = change_view c.args.change in
    let new = map history_view c.turn_at.new.list.items in
    let found = found_in hs row c.in-Some.place (subst (λ rows. IsPlace rows row (Ok c.in-Some.place)) (sym (numbers_are hs c.args.self.now c.self.view_is)) c.in-Some.ensures) in
    let turned = c.in_ok-turn_at.ensures.ok in
    let rows = sym (turned_rows (map history_view hs) row c.in-Some.place change new c.self.invariant.0 found.0 found.1 turned) in
    (turned_table (map history_view hs) row c.in-Some.place change new c.self.invariant.0 found.0 found.1 turned, subst (AreFlagged c.self.inside.flags.items) rows c.self.invariant.1, subst (TellRows c.self.inside.guesses.buckets.items) rows c.self.invariant.2)

pub invariant_of-self-in_err-turn_at : goal.invariant_of-self-in_err-turn_at
invariant_of-self-in_err-turn_at g c =
    let flags = c.self.inside.flags.items in
    let buckets = c.self.inside.guesses.buckets.items in
    subst (λ t. IsTable t × AreFlagged flags (rows_of t) × TellRows buckets (rows_of t)) (sym c.in_err-turn_at.ensures.err) c.self.invariant

pub returns-in_ok-turn_at : goal.returns-in_ok-turn_at
returns-in_ok-turn_at g c =
    let hs = c.self.inside.list.items in
    let t = map history_view hs in
    let atom = atom_read c.args.atom.now in
    let row = row_of atom in
    let start = g.S.State.atoms c.args.first.now in
    let change = change_view c.args.change in
    let new = map history_view c.turn_at.new.list.items in
    let found = found_in hs row c.in-Some.place (subst (λ rows. IsPlace rows row (Ok c.in-Some.place)) (sym (numbers_are hs c.args.self.now c.self.view_is)) c.in-Some.ensures) in
    let list = sym (changes_beside hs row c.in-Some.place c.index.result.now c.self.invariant.0.rows found.0 found.1 c.index.ensures) in
    let said = subst (λ cs. (k : ℕ) → Before (k + 1) cs → IsTrue c.says.result ↔ Tells (start atom) k cs) list c.says.ensures in
    let turned = c.in_ok-turn_at.ensures.ok in
    let rows = turned_rows t row c.in-Some.place change new c.self.invariant.0 found.0 found.1 turned in
    let others = turned_others t row c.in-Some.place change new c.self.invariant.0 found.0 found.1 turned in
    let here = turned_here t row c.in-Some.place change new c.self.invariant.0 found.0 found.1 turned in
    subst (λ x. IsSet start (λ h. atom ≡ h) (index_of c.args.change) (truth_of c.args.change) x new) c.self.view_is (set_turned start (index_of c.args.change) c.says.result (truth_of c.args.change) atom t new said (subst (λ b. c.says.result ≡ b → ⊥) c.is_true.ensures (differ_if c.says.result c.is_true.result c.if-says-is_true.true)) rows others here)

pub returns-else-says-is_true : goal.returns-else-says-is_true
returns-else-says-is_true g c =
    let hs = c.self.inside.list.items in
    let t = map history_view hs in
    let atom = atom_read c.args.atom.now in
    let row = row_of atom in
    let start = g.S.State.atoms c.args.first.now in
    let found = found_in hs row c.in-Some.place (subst (λ rows. IsPlace rows row (Ok c.in-Some.place)) (sym (numbers_are hs c.args.self.now c.self.view_is)) c.in-Some.ensures) in
    let list = sym (changes_beside hs row c.in-Some.place c.index.result.now c.self.invariant.0.rows found.0 found.1 c.index.ensures) in
    let said = subst (λ cs. (k : ℕ) → Before (k + 1) cs → IsTrue c.says.result ↔ Tells (start atom) k cs) list c.says.ensures in
    subst (λ x. IsSet start (λ h. atom ≡ h) (index_of c.args.change) (truth_of c.args.change) x x) c.self.view_is (set_same_atom start (index_of c.args.change) c.says.result (truth_of c.args.change) atom t t said (agree_if c.says.result c.is_true.result c.if-says-is_true.false ∙ c.is_true.ensures))

pub returns-in_default : goal.returns-in_default
returns-in_default g c =
    let hs = c.self.inside.list.items in
    let t = map history_view hs in
    let atom = atom_read c.args.atom.now in
    let lacks = not_found_in hs (row_of atom) (subst (λ rows. Contains rows (row_of atom) → ⊥) (sym (numbers_are hs c.args.self.now c.self.view_is)) c.in_default.ensures) in
    subst (λ x. IsSet (g.S.State.atoms c.args.first.now) (λ h. atom ≡ h) (index_of c.args.change) (truth_of c.args.change) x x) c.self.view_is (set_unknown (g.S.State.atoms c.args.first.now) (index_of c.args.change) (truth_of c.args.change) atom t lacks)
