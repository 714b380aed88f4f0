-- The digits of a number: how they come about, that they give the number again, that none is a zero too many, and how many they are.
use mathlib.Core.Path.{◌≡◌, refl, sym, ap, ◌∙◌}
use mathlib.Core.List.{List, [], ◌∷◌, ◌++◌}
use Prim.Native.Nat.{ℕ, zero, suc, ◌+◌, ◌*◌, ◌/◌, ◌%◌, ◌^◌, ◌-◌, ◌≤◌, ◌<◌}
use native.Mathlib.Nat.{le_refl, pow-succ'}
use native.Mathlib.Decide.{dec_le}
use native.Mathlib.Omega.{arith}
use lib.ListN.{length, get_or, length-append, get_or-append}
use borrow.Author.Tests.{lt-ltb, le-ltb}
use Rattle.text_decimal.specs.Decimal.{digit, decimal_in, decimal}

-- what holds of every number below 10, and of a number where it holds of its tenth, holds of every number
by_tenths : (P : ℕ → Type 0) → ((n : ℕ) → n < 10 → P n) → ((n : ℕ) → 10 ≤ n → P (n / 10) → P n) → (n : ℕ) → P n
by_tenths P small more n = go n n (le_refl n)
  where
    pick : (k n : ℕ) → n ≤ suc k → (n / 10 ≤ k → P (n / 10)) → Dec (10 ≤ n) → P n
    pick k n h f (yes g) = more n g (f (omega arith))
    pick k n h f (no g) = small n (omega arith)

    go : (k n : ℕ) → n ≤ k → P n
    go zero n h = small n (omega arith)
    go (suc k) n h = pick k n h (λ l. go k (n / 10) l) (dec_le 10 n)

-- a number below 10 is one digit
in_small : (k n : ℕ) → n < 10 → decimal_in k n ≡ digit n ∷ []
unfolding decimal_in
in_small zero n h = refl
in_small (suc k) n h = rw (lt-ltb n 10 h)

-- steps that are enough give the same digits
enough : (k j n : ℕ) → n ≤ k → n ≤ j → decimal_in k n ≡ decimal_in j n
unfolding decimal_in
enough zero j n h g = sym (in_small j n (omega arith))
enough (suc k) zero n h g = in_small (suc k) n (omega arith)
enough (suc k) (suc j) n h g = go (dec_le 10 n) (λ l. enough k j (n / 10) (omega arith) (omega arith))
  where
    go : Dec (10 ≤ n) → (10 ≤ n → decimal_in k (n / 10) ≡ decimal_in j (n / 10)) → decimal_in (suc k) n ≡ decimal_in (suc j) n
    go (yes l) f = rw (le-ltb n 10 l, f l)
    go (no l) f = rw (lt-ltb n 10 (omega arith))

pub decimal_small : (n : ℕ) → n < 10 → decimal n ≡ digit n ∷ []
unfolding decimal
decimal_small n h = in_small n n h

-- any other has the digits of its tenth, and one more
pub decimal_more : (n : ℕ) → 10 ≤ n → decimal n ≡ decimal (n / 10) ++ (digit (n % 10) ∷ [])
unfolding decimal decimal_in
decimal_more zero h = absurd (omega arith)
decimal_more (suc k) h =
    rw (le-ltb (suc k) 10 h)
    (ap (λ (ds : List ℕ). ds ++ (digit (suc k % 10) ∷ [])) (enough k (suc k / 10) (suc k / 10) (omega arith) (le_refl _)))

pub decimal_one : (n : ℕ) → n < 10 → length (decimal n) ≡ 1
decimal_one n h = rw (decimal_small n h)

pub decimal_longer : (n : ℕ) → 10 ≤ n → length (decimal n) ≡ length (decimal (n / 10)) + 1
decimal_longer n h = rw (decimal_more n h) (length-append (decimal (n / 10)) (digit (n % 10) ∷ []))

-- the number that digits give, after the number v
unfoldable pub value_from : ℕ → List ℕ → ℕ
value_from v [] = v
value_from v (d ∷ ds) = value_from (10 * v + (d - 48)) ds

value_append : (v d : ℕ) (ds : List ℕ) → value_from v (ds ++ (digit d ∷ [])) ≡ 10 * value_from v ds + d
unfolding value_from
value_append v d [] = omega arith
value_append v d (x ∷ ds) = value_append (10 * v + (x - 48)) d ds

-- the digits give the number again
pub decimal_value : (n : ℕ) → value_from 0 (decimal n) ≡ n
unfolding value_from
decimal_value =
    by_tenths (λ n. value_from 0 (decimal n) ≡ n)
    (λ n h. rw (decimal_small n h) (omega arith))
    (λ n h e. rw (decimal_more n h) (value_append 0 (n % 10) (decimal (n / 10)) ∙ omega (arith, e)))

-- there is a first digit, and no number but 0 begins with a zero
pub decimal_some : (n : ℕ) → 0 < length (decimal n)
decimal_some =
    by_tenths (λ n. 0 < length (decimal n))
    (λ n h. rw (decimal_small n h) (omega arith))
    (λ n h e. rw (decimal_more n h, length-append) (omega arith))

pub decimal_first : (n : ℕ) → 0 < n → digit 0 < get_or (decimal n) 0 0
decimal_first =
    by_tenths (λ n. 0 < n → digit 0 < get_or (decimal n) 0 0)
    (λ n h l. rw (decimal_small n h) (omega arith))
    (λ n h e l. rw (decimal_more n h, get_or-append (decimal (n / 10)) (digit (n % 10) ∷ []) 0 0 (decimal_some (n / 10))) (e (omega arith)))

-- a number below a power of 10 has at most as many digits
pub decimal_short : (k n : ℕ) → n < 10 ^ suc k → length (decimal n) ≤ suc k
decimal_short zero n h = rw (decimal_small n h) (omega arith)
decimal_short (suc k) n h = go (dec_le 10 n) (λ l. decimal_short k (n / 10) l)
  where
    go : Dec (10 ≤ n) → (n / 10 < 10 ^ suc k → length (decimal (n / 10)) ≤ suc k) → length (decimal n) ≤ suc (suc k)
    go (yes g) f = rw (decimal_more n g, length-append) (omega (arith, f (omega (arith, pow-succ' 10 (suc k)))))
    go (no g) f = rw (decimal_small n (omega arith)) (omega arith)

-- so a number of 32 bits has at most 10, one of 16 bits 5 and one of 8 bits 3
pub decimal_32 : (n : ℕ) → n < 2 ^ 32 → length (decimal n) ≤ 10
decimal_32 n h = decimal_short 9 n (omega arith)

pub decimal_16 : (n : ℕ) → n < 2 ^ 16 → length (decimal n) ≤ 5
decimal_16 n h = decimal_short 4 n (omega arith)

pub decimal_8 : (n : ℕ) → n < 2 ^ 8 → length (decimal n) ≤ 3
decimal_8 n h = decimal_short 2 n (omega arith)
