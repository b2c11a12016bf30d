use Rattle.std.proofs.Common.{◌≡◌, ◌⊎◌, List, ℕ, length, rules, arith, ap, sym, ◌∙◌}
use Rattle.std.specs.Vec.{vec_len}
use Rattle.std.specs.List.{Contains}
use Rattle.hv_state.specs.inside.Rows.{shared_numbers, rows_shared}
use Rattle.hv_state.proofs.RowLemmas.{put_in_more, put_in, none_left}
use Rattle.hv_state.proofs.shared.put_all.Goals as goal

pub puts-preserved : goal.puts-preserved
puts-preserved c =
    let Q = λ (r : List ℕ). Contains (rows_shared c.args.rows.now.items) r ⊎ Contains (rows_shared c.args.new.items) r in (
      c.put.ensures.ascend,
      omega (arith, c.put.ensures.more, c.put.ensures.capacity, c.puts.invariant.1, c.in-Some.ensures.len),
      put_in_more shared_numbers (rows_shared c.puts.rows.items) (rows_shared c.put.new.rows.items) c.pop.new.self.items (rows_shared c.puts.new.items) c.in-Some.row Q c.put.ensures.exact (ap rows_shared c.in-Some.ensures.items) c.puts.invariant.2,
    )

pub returns-clause-exact : goal.returns-clause-exact
returns-clause-exact c =
    let Q = λ (r : List ℕ). Contains (rows_shared c.args.rows.now.items) r ⊎ Contains (rows_shared c.args.new.items) r in
    let len : vec_len c.puts.new ≡ 0 = c.in_default.ensures.cases.0 in
    let size : vec_len c.puts.new ≡ length c.puts.new.items = search rules in
    put_in (rows_shared c.puts.rows.items) (rows_shared c.puts.new.items) Q (ap rows_shared (none_left c.puts.new.items (sym size ∙ len))) c.puts.invariant.2
