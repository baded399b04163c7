use Rattle.cases.proofs.Faulted.{refused_some}
use Rattle.support.proofs.Passing.{refused_on}
use Rattle.support.proofs.Supported.{supported_more, supported_first}
use Rattle.support.proofs.proposing.unsupported_row.Goals as goal

pub returns-in_err-refused_unless : goal.returns-in_err-refused_unless
returns-in_err-refused_unless c =
    let e = c.in_err-refused_unless.ensures in rw (refused_on _ c.from_residual.result c.from_residual.ensures.1) (search (supported_first, refused_some))

pub loop-a-preserved : goal.loop-a-preserved
loop-a-preserved c = let e = c.in_ok-refused_unless.ensures in search supported_more
