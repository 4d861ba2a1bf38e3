-- What the laws give of multiples and of finite sums.
use Rattle.std.proofs.Common.{◌≡◌, ◌≢◌, ℕ, zero, suc, ◌+◌, ◌-◌, ◌*◌, ◌<◌, ◌≤◌, refl, sym, ap, ap₂, ◌∙◌, add-zero, add-suc, add-one, mul-zero, mul-suc, arith}
use Rattle.values.specs.Laws.{Ops, Laws}
use Rattle.values.specs.Sums.{sum}

module _ {V : Type 0} {o : Ops V} (laws : Laws o) where
  zero_plus : (x : V) → o.plus o.zero x ≡ x
  zero_plus x = laws.plus_comm o.zero x ∙ laws.plus_zero x

  -- taken no times
  pub multiple_none : (x : V) (n : ℕ) → n ≡ 0 → o.multiple x n ≡ o.zero
  multiple_none x n e = ap (o.multiple x) e ∙ laws.multiple_zero x

  pub plus_none : (x y : V) → y ≡ o.zero → o.plus x y ≡ x
  plus_none x y e = ap (o.plus x) e ∙ laws.plus_zero x

  -- (a + b) + (c + d) is (a + c) + (b + d)
  pub plus_swap : (a b c d : V) → o.plus (o.plus a b) (o.plus c d) ≡ o.plus (o.plus a c) (o.plus b d)
  plus_swap a b c d =
      laws.plus_assoc a b (o.plus c d)
      ∙ ap (o.plus a) (sym (laws.plus_assoc b c d) ∙ ap (λ x. o.plus x d) (laws.plus_comm b c) ∙ laws.plus_assoc c b d)
      ∙ sym (laws.plus_assoc a c (o.plus b d))

  pub zero_times : (x : V) → o.times o.zero x ≡ o.zero
  zero_times x = laws.times_comm o.zero x ∙ laws.times_zero x

  pub plus_times : (x y z : V) → o.times (o.plus x y) z ≡ o.plus (o.times x z) (o.times y z)
  plus_times x y z = laws.times_comm (o.plus x y) z ∙ laws.times_plus z x y ∙ ap₂ o.plus (laws.times_comm z x) (laws.times_comm z y)

  -- x (y z) is y (x z)
  pub times_swap : (x y z : V) → o.times x (o.times y z) ≡ o.times y (o.times x z)
  times_swap x y z = sym (laws.times_assoc x y z) ∙ ap (λ u. o.times u z) (laws.times_comm x y) ∙ laws.times_assoc y x z

  multiple_suc : (x : V) (n : ℕ) → o.multiple x (suc n) ≡ o.plus (o.multiple x n) x
  multiple_suc x n = ap (o.multiple x) (sym (add-one n)) ∙ laws.multiple_more x n

  zero_multiple : (n : ℕ) → o.multiple o.zero n ≡ o.zero
  zero_multiple zero = laws.multiple_zero o.zero
  zero_multiple (suc n) = multiple_suc o.zero n ∙ laws.plus_zero _ ∙ zero_multiple n

  pub multiple_plus : (x y : V) (n : ℕ) → o.multiple (o.plus x y) n ≡ o.plus (o.multiple x n) (o.multiple y n)
  multiple_plus x y zero = laws.multiple_zero (o.plus x y) ∙ sym (ap₂ o.plus (laws.multiple_zero x) (laws.multiple_zero y) ∙ laws.plus_zero o.zero)
  multiple_plus x y (suc n) =
      multiple_suc (o.plus x y) n
      ∙ ap (λ u. o.plus u (o.plus x y)) (multiple_plus x y n)
      ∙ plus_swap (o.multiple x n) (o.multiple y n) x y
      ∙ sym (ap₂ o.plus (multiple_suc x n) (multiple_suc y n))

  pub multiple_add : (x : V) (m n : ℕ) → o.multiple x (m + n) ≡ o.plus (o.multiple x m) (o.multiple x n)
  multiple_add x m zero = ap (o.multiple x) (add-zero m) ∙ sym (ap (o.plus (o.multiple x m)) (laws.multiple_zero x) ∙ laws.plus_zero (o.multiple x m))
  multiple_add x m (suc n) =
      ap (o.multiple x) (add-suc m n)
      ∙ multiple_suc x (m + n)
      ∙ ap (λ u. o.plus u x) (multiple_add x m n)
      ∙ laws.plus_assoc (o.multiple x m) (o.multiple x n) x
      ∙ ap (o.plus (o.multiple x m)) (sym (multiple_suc x n))

  -- a multiple of a multiple
  pub multiple_multiple : (x : V) (m n : ℕ) → o.multiple (o.multiple x m) n ≡ o.multiple x (m * n)
  multiple_multiple x m zero = laws.multiple_zero (o.multiple x m) ∙ sym (ap (o.multiple x) (mul-zero m) ∙ laws.multiple_zero x)
  multiple_multiple x m (suc n) =
      multiple_suc (o.multiple x m) n
      ∙ ap (λ u. o.plus u (o.multiple x m)) (multiple_multiple x m n)
      ∙ sym (multiple_add x (m * n) m)
      ∙ ap (o.multiple x) (omega (arith, mul-suc m n))

  pub times_multiple : (x y : V) (n : ℕ) → o.times x (o.multiple y n) ≡ o.multiple (o.times x y) n
  times_multiple x y zero = ap (o.times x) (laws.multiple_zero y) ∙ laws.times_zero x ∙ sym (laws.multiple_zero (o.times x y))
  times_multiple x y (suc n) =
      ap (o.times x) (multiple_suc y n)
      ∙ laws.times_plus x (o.multiple y n) y
      ∙ ap (λ u. o.plus u (o.times x y)) (times_multiple x y n)
      ∙ sym (multiple_suc (o.times x y) n)

  pub multiple_times : (x y : V) (n : ℕ) → o.times (o.multiple x n) y ≡ o.multiple (o.times x y) n
  multiple_times x y n = laws.times_comm (o.multiple x n) y ∙ times_multiple y x n ∙ ap (λ u. o.multiple u n) (laws.times_comm y x)

  pub sum_more : (n : ℕ) (f : ℕ → V) → sum o (n + 1) f ≡ o.plus (sum o n f) (f n)
  unfolding sum
  sum_more n f = ap (λ m. sum o m f) (add-one n)

  pub sum_same : (n : ℕ) (f g : ℕ → V) → ((i : ℕ) → i < n → f i ≡ g i) → sum o n f ≡ sum o n g
  unfolding sum
  sum_same zero f g h = refl
  sum_same (suc n) f g h = ap₂ o.plus (sum_same n f g (λ i l. h i (omega arith))) (h n (omega arith))

  pub sum_plus : (n : ℕ) (f g : ℕ → V) → sum o n (λ i. o.plus (f i) (g i)) ≡ o.plus (sum o n f) (sum o n g)
  unfolding sum
  sum_plus zero f g = sym (laws.plus_zero o.zero)
  sum_plus (suc n) f g = ap (λ u. o.plus u (o.plus (f n) (g n))) (sum_plus n f g) ∙ plus_swap (sum o n f) (sum o n g) (f n) (g n)

  sum_zero : (n : ℕ) → sum o n (λ i. o.zero) ≡ o.zero
  unfolding sum
  sum_zero zero = refl
  sum_zero (suc n) = laws.plus_zero _ ∙ sum_zero n

  -- nothing is added
  pub sum_none : (n : ℕ) (f : ℕ → V) → ((i : ℕ) → i < n → f i ≡ o.zero) → sum o n f ≡ o.zero
  sum_none n f h = sum_same n f (λ i. o.zero) h ∙ sum_zero n

  pub multiple_sum : (w : ℕ) (n : ℕ) (f : ℕ → V) → o.multiple (sum o n f) w ≡ sum o n (λ i. o.multiple (f i) w)
  unfolding sum
  multiple_sum w zero f = zero_multiple w
  multiple_sum w (suc n) f = multiple_plus (sum o n f) (f n) w ∙ ap (λ u. o.plus u (o.multiple (f n) w)) (multiple_sum w n f)

  pub times_sum : (c : V) (n : ℕ) (f : ℕ → V) → o.times c (sum o n f) ≡ sum o n (λ i. o.times c (f i))
  unfolding sum
  times_sum c zero f = laws.times_zero c
  times_sum c (suc n) f = laws.times_plus c (sum o n f) (f n) ∙ ap (λ u. o.plus u (o.times c (f n))) (times_sum c n f)

  pub sum_times : (c : V) (n : ℕ) (f : ℕ → V) → o.times (sum o n f) c ≡ sum o n (λ i. o.times (f i) c)
  sum_times c n f = laws.times_comm (sum o n f) c ∙ times_sum c n f ∙ sum_same n _ _ (λ i l. laws.times_comm c (f i))

  pub sum_swap : (m n : ℕ) (f : ℕ → ℕ → V) → sum o m (λ i. sum o n (λ j. f i j)) ≡ sum o n (λ j. sum o m (λ i. f i j))
  unfolding sum
  sum_swap zero n f = sym (sum_zero n)
  sum_swap (suc m) n f = ap (λ u. o.plus u (sum o n (f m))) (sum_swap m n f) ∙ sym (sum_plus n (λ j. sum o m (λ i. f i j)) (f m))

  pub sum_split : (a b : ℕ) (f : ℕ → V) → sum o (a + b) f ≡ o.plus (sum o a f) (sum o b (λ i. f (a + i)))
  unfolding sum
  sum_split a zero f = rw add-zero (sym (laws.plus_zero (sum o a f)))
  sum_split a (suc b) f = rw add-suc (ap (λ u. o.plus u (f (a + b))) (sum_split a b f) ∙ laws.plus_assoc (sum o a f) (sum o b (λ i. f (a + i))) (f (a + b)))

  -- nothing is added from n up to m
  pub sum_past : (m n : ℕ) (f : ℕ → V) → n ≤ m → ((i : ℕ) → n ≤ i → i < m → f i ≡ o.zero) → sum o m f ≡ sum o n f
  sum_past m n f le h =
      let e : m ≡ n + (m - n) = omega arith in
      ap (λ k. sum o k f) e
      ∙ sum_split n (m - n) f
      ∙ ap (o.plus (sum o n f)) (sum_none (m - n) (λ i. f (n + i)) (λ i l. h (n + i) (omega arith) (omega arith)))
      ∙ laws.plus_zero (sum o n f)

  -- nothing is added but b terms, from the term a on
  pub sum_part : (a b n : ℕ) (f : ℕ → V) → a + b ≤ n → ((i : ℕ) → i < a → f i ≡ o.zero) → ((i : ℕ) → a + b ≤ i → f i ≡ o.zero) → sum o n f ≡ sum o b (λ i. f (a + i))
  sum_part a b n f le before after =
      sum_past n (a + b) f le (λ i from l. after i from)
      ∙ sum_split a b f
      ∙ ap (λ u. o.plus u (sum o b (λ i. f (a + i)))) (sum_none a f before)
      ∙ zero_plus _

  -- one term alone
  pub sum_only : (n k : ℕ) (f : ℕ → V) → k < n → ((i : ℕ) → i < n → i ≢ k → f i ≡ o.zero) → sum o n f ≡ f k
  sum_only n k f lt h =
      sum_past n (k + 1) f (omega arith) (λ i a b. h i b (λ e. omega arith))
      ∙ sum_more k f
      ∙ ap (λ u. o.plus u (f k)) (sum_none k f (λ i l. h i (omega arith) (λ e. omega arith)))
      ∙ zero_plus (f k)
