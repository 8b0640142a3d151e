use Rattle.ledger.proofs.Transfers.{total_answer}
use Rattle.laws.proofs.ledgers.transfers_even_out.Goals as goal

pub returns : goal.returns
returns c A r n reply B article g e h t = total_answer A r n reply B article g e h t
