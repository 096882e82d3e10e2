-- A theorem that says `unfolding opened` computes with every definition of this crate.
use Rattle.bytes_le.specs.Numbers.{le, from_le, le_at, words, from_words}

unfoldable pub opened : Unit {0}
unfolding le from_le le_at words from_words
opened = tt
