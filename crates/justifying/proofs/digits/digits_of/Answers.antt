-- `justifying::digits::digits_of` meets its contract. Assumes nothing.
use Rattle.justifying.proofs.InDigits.{digit_count_small, digit_count_large}
use Rattle.justifying.proofs.digits.digits_of.Goals as goal

pub returns-clause-upper_bound : goal.returns-clause-upper_bound
returns-clause-upper_bound c = digit_count_small c.requires

pub returns-clause-result_value : goal.returns-clause-result_value
returns-clause-result_value c = digit_count_large c.requires
