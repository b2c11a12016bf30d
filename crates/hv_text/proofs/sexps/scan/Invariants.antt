use Rattle.std.proofs.Common.{◌≡◌, ◌≤◌, ◌-◌, ◌++◌, [], length, vec_len}
use Rattle.hv_text.specs.Words.{pieces, pieces_at}
use Rattle.hv_text.specs.inside.Scan.{spellings, spelling_of_open, places_of_open, fault_from, open_from}
use Rattle.hv_text.specs.declared.fault.TheConstants.{MOST_OPEN}
use Rattle.hv_text.proofs.sexps.scan.Given as goal

-- what has been read and what stands from here on are what stands in the text; what is open here decides the faults
abbrev pub invariant-words : goal.invariant-words
invariant-words l = (l.at ≤ length l.text)
    × (vec_len l.pending ≤ MOST_OPEN)
    × (spelling_of_open l.pending.items ++ spellings l.here.items ++ pieces_at l.text l.at ≡ pieces l.text)
    × (fault_from (vec_len l.pending) (pieces_at l.text l.at) ≡ fault_from 0 (pieces l.text))
    × (open_from (places_of_open l.pending.items) (pieces_at l.text l.at) ≡ open_from [] (pieces l.text))

abbrev pub decreases-words : goal.decreases-words
decreases-words l = length l.text - l.at
