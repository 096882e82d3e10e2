-- `cut_off`: at every turn the bytes passed so far are those at the offset, or 0 past the end.
use Rattle.std.proofs.Common.{◌≡◌, ℕ, ◌+◌, ◌<◌, length, get_or}
use Rattle.bytes_le.proofs.get.cut_off.Given as goal

abbrev pub invariant-loop-i : goal.invariant-loop-i
invariant-loop-i g l = (length l.bytes ≡ 8) × ((k : ℕ) → k < l.i → get_or l.bytes k 0 ≡ get_or l.s (l.at + k) 0)
