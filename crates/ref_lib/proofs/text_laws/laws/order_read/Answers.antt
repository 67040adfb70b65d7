use Rattle.ref_lib.proofs.text_laws.Orders.{order_read}
use Rattle.ref_lib.proofs.text_laws.laws.order_read.Goals as goal

pub returns : goal.returns
returns c = order_read
