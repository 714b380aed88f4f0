-- How a loop over the bytes works out their sum.
use Rattle.std.proofs.Common.{◌≡◌, ℕ, ◌+◌, ◌*◌, ◌%◌, ◌<◌, ◌≤◌, List, length, get_or, drop, add-one, drop_of_length-le, drop-cons}
use Rattle.file_bytes.specs.Sum.{sum_from}

pub sum_step : (s : List ℕ) (a b i : ℕ) → i < length s
    → sum_from a b (drop i s) ≡ sum_from ((a + get_or s i 0) % 65536) ((b + (a + get_or s i 0) % 65536) % 65536) (drop (i + 1) s)
unfolding sum_from
sum_step s a b i h = rw (add-one, drop-cons s i 0)

pub sum_end : (s : List ℕ) (a b i : ℕ) → length s ≤ i → sum_from a b (drop i s) ≡ a + 65536 * b
unfolding sum_from
sum_end s a b i h = rw (drop_of_length-le s h)
