use Rattle.cases.proofs.Faulted.{refused_some}
use Rattle.support.proofs.Passing.{refused_on}
use Rattle.support.proofs.Supported.{supported_rows_first, supported_rows_all}
use Rattle.support.proofs.proposing.support_fault.Goals as goal

pub returns-in_err-unsupported_row : goal.returns-in_err-unsupported_row
returns-in_err-unsupported_row c =
    let e = c.in_err-unsupported_row.ensures in rw (refused_on _ c.from_residual.result c.from_residual.ensures.1) (search (supported_rows_first, refused_some))

pub returns : goal.returns
returns c = search supported_rows_all
