use Rattle.hv_order.proofs.SchedulesSequences.{schedule_law}
use Rattle.hv_order.proofs.Solutions.{placed_law, sequence_law}
use Rattle.hv_order.proofs.Indices.{index_law}
use Rattle.hv_order.proofs.laws.sequence_law.Goals as goal

pub returns : goal.returns
returns c = record { index = index_law; schedule = schedule_law; placed = placed_law; sequence = sequence_law }
