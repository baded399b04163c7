-- The measures of `parts::readers::read_inner` and `parts::readers::read_part`: 2d and 2d + 1, d being the levels that may open, so that an
-- inner part, in which one less may, is below its part.
use Rattle.std.proofs.Common.{◌+◌, ◌*◌}
use Rattle.parts.proofs.readers.+read_inner_read_part.Given as goal

abbrev pub decreases-read_inner : goal.decreases-read_inner
decreases-read_inner l = 2 * l.depth

abbrev pub decreases-read_part : goal.decreases-read_part
decreases-read_part l = 2 * l.depth + 1
