use Rattle.hv_order.proofs.Exchange.{exchange_law, least_exchange_law}
use Rattle.hv_order.proofs.Wider.{wider_law}
use Rattle.hv_order.proofs.laws.exchange_law.Goals as goal

pub returns : goal.returns
returns c = record { schedule = exchange_law; least = least_exchange_law; wider = wider_law }
