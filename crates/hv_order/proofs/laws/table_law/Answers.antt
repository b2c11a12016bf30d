use Rattle.hv_order.proofs.Table.{table_law}
use Rattle.hv_order.proofs.Judgement.{line_law, root_law}
use Rattle.hv_order.proofs.Rising.{rise_law}
use Rattle.hv_order.proofs.DeepEnough.{depth_law}
use Rattle.hv_order.proofs.TopologicalSorts.{sort_law}
use Rattle.hv_order.proofs.laws.table_law.Goals as goal

pub returns : goal.returns
returns c = record { fits = table_law; line = line_law; root = root_law; rise = rise_law; depth = depth_law; sort = sort_law }
