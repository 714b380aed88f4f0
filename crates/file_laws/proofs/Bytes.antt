-- Lists of bytes, joined and cut.
use Prim.Native.Nat.{ℕ, zero, suc, ◌<◌}
use native.Mathlib.Decide.{dec_lt}
use native.Mathlib.Omega.{arith}
use mathlib.Core.List.{List, [], ◌∷◌, ◌++◌}
use lib.ListN.{take, drop, get_or, length-take, get_or-eq_default}
use lib.Seq.{get_or-take, get_or-drop}
use Rattle.file_laws.specs.Valid.{Bytes}

pub bytes_none : Bytes []
bytes_none k = omega arith

pub bytes_more : (x : ℕ) (xs : List ℕ) → x < 256 → Bytes xs → Bytes (x ∷ xs)
bytes_more x xs h b zero = h
bytes_more x xs h b (suc k) = b k

pub bytes_join : (xs ys : List ℕ) → Bytes xs → Bytes ys → Bytes (xs ++ ys)
bytes_join [] ys b c = c
bytes_join (x ∷ xs) ys b c = bytes_more x (xs ++ ys) (b 0) (bytes_join xs ys (λ k. b (suc k)) c)

pub bytes_part : (s : List ℕ) (a n : ℕ) → Bytes s → Bytes (take n (drop a s))
bytes_part s a n b k = go (dec_lt k n)
  where
    go : Dec (k < n) → get_or (take n (drop a s)) k 0 < 256
    go (yes h) = rw (get_or-take n (drop a s) k 0 h, get_or-drop a s k 0) (b _)
    go (no h) = rw (get_or-eq_default (take n (drop a s)) 0 {n = k} (simp length-take (omega arith))) (omega arith)
