use Rattle.hv_order.proofs.Split.{split_law}
use Rattle.hv_order.proofs.Window.{window_law}
use Rattle.hv_order.proofs.Indices.{sequence_window_law}
use Rattle.hv_order.proofs.laws.split_law.Goals as goal

pub returns : goal.returns
returns c = record { order = split_law; sequence = sequence_window_law; window = window_law }
