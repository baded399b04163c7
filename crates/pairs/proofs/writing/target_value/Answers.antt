-- `pairs::writing::target_value` meets its contract: the target's pair is below the pair count. Assumes nothing.
use Rattle.pairs.proofs.Tallying.{target_row_fits, pair_fits, target_pair_in, target_pair_value}
use Rattle.pairs.proofs.writing.target_value.Goals as goal

pub overflow_mul-pair : goal.overflow_mul-pair
overflow_mul-pair c = search target_row_fits

pub overflow_add-pair : goal.overflow_add-pair
overflow_add-pair c = search pair_fits

pub bounds-values-pair : goal.bounds-values-pair
bounds-values-pair c = search target_pair_in

pub returns : goal.returns
returns c = search target_pair_value
