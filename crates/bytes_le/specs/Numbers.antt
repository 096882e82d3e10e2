-- Numbers as bytes, the lowest byte first ("Numbers are little-endian, unsigned").
use Rattle.std.specs.Prelude.{ℕ, zero, suc, ◌+◌, ◌*◌, ◌/◌, ◌%◌, List, [], ◌∷◌, ◌++◌, take, drop}

-- the bytes of a number, as many as asked for
unfoldable pub le : (width : ℕ) → ℕ → List ℕ
le zero n = []
le (suc width) n = (n % 256) ∷ le width (n / 256)

-- the number that bytes stand for
unfoldable pub from_le : List ℕ → ℕ
from_le [] = 0
from_le (b ∷ bs) = b + 256 * from_le bs

-- the number of so many bytes at an offset; bytes past the end count as 0
unfoldable pub le_at : (width : ℕ) → List ℕ → (offset : ℕ) → ℕ
le_at width bytes offset = from_le (take width (drop offset bytes))

-- 4-byte words, one after the other
unfoldable pub words : List ℕ → List ℕ
words [] = []
words (w ∷ ws) = le 4 w ++ words ws

-- the first so many 4-byte words that stand in bytes
unfoldable pub from_words : (count : ℕ) → List ℕ → List ℕ
from_words zero bytes = []
from_words (suc count) bytes = from_le (take 4 bytes) ∷ from_words count (drop 4 bytes)
