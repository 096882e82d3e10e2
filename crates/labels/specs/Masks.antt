-- Masks of any width: a natural number whose binary digit n is the mark of number n.
use Rattle.std.specs.Prelude.{ℕ, zero, suc, ◌+◌, ◌*◌, ◌/◌, ◌%◌, Bool, cond, eqb}

-- digit n is set
unfoldable pub bit : (mask n : ℕ) → Bool
bit m zero = eqb (m % 2) 1
bit m (suc n) = bit (m / 2) n

-- the mask with digit n set or cleared, all others as they were
unfoldable pub put_bit : (mask n : ℕ) → Bool → ℕ
put_bit m zero b = (m / 2) * 2 + cond b 1 0
put_bit m (suc n) b = put_bit (m / 2) n b * 2 + m % 2
