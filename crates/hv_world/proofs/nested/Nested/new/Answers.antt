use Rattle.std.proofs.Common.{◌≡◌, ◌++◌, IfSome, rules, length, take, drop, refl, sym, ap, subst, ◌∙◌, arith}
use Rattle.std.proofs.lemmas.List.{take_at}
use Rattle.hv_world.specs.Types.{typing}
use Rattle.hv_world.specs.inside.Lines.{AreAll, AreParts, HaveParts}
use Rattle.hv_world.proofs.LineLemmas.{are_listed, entered_open, no_parts}
use Rattle.hv_world.proofs.nested.Nested.new.Goals as goal

pub returns : goal.returns
returns c =
    let w = typing c.args.types c.args.objects c.args.parents.now c.args.declared.now in
    let graph = c.in_ok-graph.graph in
    let lists = c.in_ok-lists.lists.items in
    let waiting = c.in_ok-waiting.waiting.items in
    let spans = c.walk.new.spans in
    let old = c.in_ok-spans.spans.items in
    let long : length spans ≡ c.in_ok-spans.spans.len = omega (arith, c.in_ok-is_walked.ensures.size, c.deref_mut.ensures.len) in
    let whole : take c.in_ok-spans.spans.len (spans ++ drop (length spans) old) ≡ spans = take_at spans (drop (length spans) old) c.in_ok-spans.spans.len long in
    let listed = are_listed w graph lists c.args.declared.now (λ p. p.0.0) (λ p. p.1.0) c.in_ok-graph.ensures.graph refl c.in_ok-lists.ensures in
    let first : AreParts w c.in_ok-line.line c.deref_mut.result.now = subst (AreParts w c.in_ok-line.line) (sym (c.deref_mut.ensures.value ∙ c.in_ok-spans.ensures.items_if_clones_equal (search rules))) (no_parts w c.in_ok-line.line c.args.types) in
    let walked = rw c.deref.ensures.value at c.in_ok-is_walked.ensures.parts c.if-not-is_walked.false w in
    record {
      range = c.in_ok-graph.ensures.graph.range;
      all = subst (λ o. IfSome o (AreAll c.args.objects)) c.in-Some.is c.in_ok-all_objects.ensures;
      size = ap length whole ∙ long ∙ c.in_ok-spans.ensures.len;
      have = subst HaveParts c.deref-else-not-is_walked.ensures.value (c.have_parts.ensures c.if-not-have_parts.false);
      parts = subst (AreParts w c.walk.new.line) (sym whole) (walked listed (entered_open w c.in_ok-line.line waiting c.in_ok-waiting.ensures) first);
    }
