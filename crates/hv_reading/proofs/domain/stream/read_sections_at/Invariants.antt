use Rattle.std.proofs.Common.{◌≡◌, [], List, map}
use Rattle.hv_text.specs.Names.{text_of}
use Rattle.hv_text.specs.Trees.{Tree}
use Rattle.hv_text.specs.Rests.{here, ended}
use Rattle.hv_text.specs.Cursors.{rest_at, left_at}
use Rattle.hv_syntax.specs.Domains.{no_domain}
use Rattle.hv_reading.specs.inside.Domains.{domain_from}
use Rattle.hv_syntax.specs.Views.{word_view}
use Rattle.hv_syntax.specs.DomainViews.{domain_view}
use Rattle.hv_reading.specs.inside.Streams.{heads}
use Rattle.hv_reading.proofs.domain.stream.read_sections_at.Given as goal

-- behind some sections with these heads, going on from here gives what all gives
abbrev pub invariant-sections : goal.invariant-sections
invariant-sections l = ((before : List Tree) × (heads before ≡ map text_of l.heads.items) × (domain_from (domain_view l.domain) before (here (rest_at l.cursor)) ≡ domain_from (no_domain (word_view l.name)) [] (here (rest_at l.from))))
    × (ended (rest_at l.cursor) ≡ ended (rest_at l.from))

abbrev pub decreases-sections : goal.decreases-sections
decreases-sections l = left_at l.cursor
