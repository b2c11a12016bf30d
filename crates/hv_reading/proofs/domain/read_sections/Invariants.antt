use Rattle.std.proofs.Common.{◌≡◌, [], drop, take, map}
use Rattle.hv_text.specs.Trees.{tree, trees}
use Rattle.hv_syntax.specs.Domains.{no_domain}
use Rattle.hv_reading.specs.inside.Domains.{domain_from}
use Rattle.hv_syntax.specs.Views.{word_view}
use Rattle.hv_syntax.specs.DomainViews.{domain_view}
use Rattle.hv_reading.proofs.domain.read_sections.Given as goal

-- going on from here gives what all gives
abbrev pub invariant-loop-i : goal.invariant-loop-i
invariant-loop-i l = domain_from (domain_view l.domain) (map tree (take l.i l.es)) (trees (drop l.i l.es)) ≡ domain_from (no_domain (word_view l.fn.name)) [] (trees l.es)
