-- Steps of the machine with named registers: what a proof about compiled code is made of.
use Rattle.std.proofs.Common.{◌≡◌, ◌≢◌, ℕ, zero, suc, ◌+◌, ◌-◌, ◌*◌, ◌%◌, ◌<◌, ◌≤◌, ℤ, Bool, true, false, not, ◌&&◌, ◌==◌, nat_lt, if◌then◌else◌, List, [], ◌∷◌, ◌++◌, length, Some, refl, ap, ◌∙◌, subst, arith, le-leb, lt-ltb, eq-eqb, ne_eqb, le-ltb}
use Rattle.rv_steps.specs.Memory.{read, write}
use Rattle.rv_steps.specs.Arithmetic.{offset, sum}
use Rattle.rv_steps.specs.Machine.{Reg, Op, Lw, Sw, Beq, Bne, Bltu, Bgeu, Jal, Jalr, Ecall, Config, get, put, Resumes, Ends, Image, Next, Go, Halt, Fault, next, link, is_word, branch, after, jump, act, at, step, go_then, steps, Goes, load, store, Ending, Over, continue, run, Has}

both_true : (a b : Bool) → a ≡ true → b ≡ true → (a && b) ≡ true
both_true a b ea eb = rw (ea, eb) refl

-- a word that can be loaded
word_here : (a : ℕ) (m : List ℕ) → a % 4 ≡ 0 → a + 4 ≤ length m → is_word a m ≡ true
word_here a m aligned inside = both_true _ _ (eq-eqb (a % 4) 0 aligned) (le-leb (a + 4) (length m) inside)

module _ {W E : Type 0} where
  -- the step of the instruction that stands at the pc
  pub step_is : (im : Image W E) (c : Config W) {op : Op} → im.fetch c.pc ≡ Some op → step im c ≡ act im op c
  unfolding step
  step_is im c h = ap (λ o. at im o c) h

  pub goes_here : {im : Image W E} {c : Config W} → Goes im 0 c c
  unfolding steps
  goes_here = record { runs = refl }

  pub goes_step : {im : Image W E} {c d : Config W} → step im c ≡ Go d → Goes im 1 c d
  unfolding steps
  goes_step {im} h = record { runs = ap (λ r. go_then r (steps im 0)) h }

  go_same : (r : Next W E) (c d : Config W) → r ≡ Go c → r ≡ Go d → c ≡ d
  go_same r c d p q = cc

  go_then_go : (r : Next W E) (f g : Config W → Next W E) (b : Config W) (s : Next W E)
      → ((c : Config W) → f c ≡ Go b → g c ≡ s) → go_then r f ≡ Go b → go_then r g ≡ s
  go_then_go (Go c) f g b s more h = more c h
  go_then_go (Halt e w) f g b s more h = absurd cc
  go_then_go Fault f g b s more h = absurd cc

  steps_then : (im : Image W E) (n m : ℕ) (a b : Config W) → steps im n a ≡ Go b → steps im (n + m) a ≡ steps im m b
  unfolding steps
  steps_then im zero m a b h =
      let e : 0 + m ≡ m = omega arith in
      ap (λ k. steps im k a) e ∙ ap (λ x. steps im m x) (go_same (Go a) a b refl h)
  steps_then im (suc n) m a b h =
      let e : suc n + m ≡ suc (n + m) = omega arith in
      ap (λ k. steps im k a) e ∙ go_then_go (step im a) (steps im n) (steps im (n + m)) b (steps im m b) (λ c. steps_then im n m c b) h

  pub goes_then : {im : Image W E} {n m : ℕ} {a b c : Config W} → Goes im n a b → Goes im m b c → Goes im (n + m) a c
  goes_then {im} {n} {m} {a} {b} p q = record { runs = steps_then im n m a b p.runs ∙ q.runs }

  pub goes_on : {im : Image W E} {n m k : ℕ} {a b c : Config W} → n + m ≡ k → Goes im n a b → Goes im m b c → Goes im k a c
  goes_on {im} {n} {m} {k} {a} {b} {c} e p q = subst (λ j. Goes im j a c) e (goes_then p q)

  -- an instruction that is no branch or ECALL: the second premise is `refl`
  pub goes_plain : {im : Image W E} {op : Op} {c d : Config W} → im.fetch c.pc ≡ Some op → act im op c ≡ Go d → Goes im 1 c d
  goes_plain {im} {c = c} h e = goes_step (step_is im c h ∙ e)

  pub load_word : {im : Image W E} {rd base : Reg} {n : ℤ} {c : Config W} (a : ℕ)
      → im.fetch c.pc ≡ Some (Lw rd base n) → sum (get base c) (offset n) ≡ a → a % 4 ≡ 0 → a + 4 ≤ length c.mem
      → Goes im 1 c (next (put rd (read c.mem a) c))
  load_word {im} {rd} {base} {n} {c} a h e aligned inside =
      goes_plain h (ap (λ x. load rd x c) e ∙ ap (λ b. if b then Go (next (put rd (read c.mem a) c)) else Fault) (word_here a c.mem aligned inside))

  pub store_word : {im : Image W E} {r base : Reg} {n : ℤ} {c : Config W} (a : ℕ) → im.fetch c.pc ≡ Some (Sw r base n)
      → sum (get base c) (offset n) ≡ a → a % 4 ≡ 0 → im.low ≤ a → a + 4 ≤ length c.mem
      → Goes im 1 c (next (record c { mem = write c.mem a (get r c) }))
  store_word {im} {r} {base} {n} {c} a h e aligned free inside =
      let may = both_true _ _ (word_here a c.mem aligned inside) (le-leb im.low a free) in
      goes_plain h (ap (λ x. store im.low x (get r c) c) e ∙ ap (λ b. if b then Go (next (record c { mem = write c.mem a (get r c) })) else Fault) may)

  pub branch_taken : {im : Image W E} {op : Op} {c : Config W} (test : Bool) (target : ℕ) → im.fetch c.pc ≡ Some op
      → act im op c ≡ branch test target c → test ≡ true → Goes im 1 c (record c { pc = target })
  branch_taken {c = c} test target h e t = goes_plain h (e ∙ ap (λ b. branch b target c) t)

  pub branch_falls : {im : Image W E} {op : Op} {c : Config W} (test : Bool) (target : ℕ) → im.fetch c.pc ≡ Some op
      → act im op c ≡ branch test target c → test ≡ false → Goes im 1 c (next c)
  branch_falls {c = c} test target h e t = goes_plain h (e ∙ ap (λ b. branch b target c) t)

  pub beq_taken : {im : Image W E} {r s : Reg} {target : ℕ} {c : Config W} → im.fetch c.pc ≡ Some (Beq r s target)
      → get r c ≡ get s c → Goes im 1 c (record c { pc = target })
  beq_taken {r = r} {s} {target} {c} h t = branch_taken (get r c == get s c) target h refl (eq-eqb (get r c) (get s c) t)

  pub beq_falls : {im : Image W E} {r s : Reg} {target : ℕ} {c : Config W} → im.fetch c.pc ≡ Some (Beq r s target)
      → get r c ≢ get s c → Goes im 1 c (next c)
  beq_falls {r = r} {s} {target} {c} h t = branch_falls (get r c == get s c) target h refl (ne_eqb (get r c) (get s c) t)

  pub bne_taken : {im : Image W E} {r s : Reg} {target : ℕ} {c : Config W} → im.fetch c.pc ≡ Some (Bne r s target)
      → get r c ≢ get s c → Goes im 1 c (record c { pc = target })
  bne_taken {r = r} {s} {target} {c} h t =
      branch_taken (not (get r c == get s c)) target h refl (ap not (ne_eqb (get r c) (get s c) t))

  pub bne_falls : {im : Image W E} {r s : Reg} {target : ℕ} {c : Config W} → im.fetch c.pc ≡ Some (Bne r s target)
      → get r c ≡ get s c → Goes im 1 c (next c)
  bne_falls {r = r} {s} {target} {c} h t =
      branch_falls (not (get r c == get s c)) target h refl (ap not (eq-eqb (get r c) (get s c) t))

  pub bltu_taken : {im : Image W E} {r s : Reg} {target : ℕ} {c : Config W} → im.fetch c.pc ≡ Some (Bltu r s target)
      → get r c < get s c → Goes im 1 c (record c { pc = target })
  bltu_taken {r = r} {s} {target} {c} h t = branch_taken (nat_lt (get r c) (get s c)) target h refl (lt-ltb (get r c) (get s c) t)

  pub bltu_falls : {im : Image W E} {r s : Reg} {target : ℕ} {c : Config W} → im.fetch c.pc ≡ Some (Bltu r s target)
      → get s c ≤ get r c → Goes im 1 c (next c)
  bltu_falls {r = r} {s} {target} {c} h t = branch_falls (nat_lt (get r c) (get s c)) target h refl (le-ltb (get r c) (get s c) t)

  pub bgeu_taken : {im : Image W E} {r s : Reg} {target : ℕ} {c : Config W} → im.fetch c.pc ≡ Some (Bgeu r s target)
      → get s c ≤ get r c → Goes im 1 c (record c { pc = target })
  bgeu_taken {r = r} {s} {target} {c} h t =
      branch_taken (not (nat_lt (get r c) (get s c))) target h refl (ap not (le-ltb (get r c) (get s c) t))

  pub bgeu_falls : {im : Image W E} {r s : Reg} {target : ℕ} {c : Config W} → im.fetch c.pc ≡ Some (Bgeu r s target)
      → get r c < get s c → Goes im 1 c (next c)
  bgeu_falls {r = r} {s} {target} {c} h t =
      branch_falls (not (nat_lt (get r c) (get s c))) target h refl (ap not (lt-ltb (get r c) (get s c) t))

  pub goes_jump : {im : Image W E} {rd : Reg} {target : ℕ} {c : Config W} → im.fetch c.pc ≡ Some (Jal rd target)
      → Goes im 1 c (link rd target c)
  goes_jump h = goes_plain h refl

  pub goes_jalr : {im : Image W E} {rd rs : Reg} {n : ℤ} {c : Config W} (target : ℕ)
      → im.fetch c.pc ≡ Some (Jalr rd rs n) → sum (get rs c) (offset n) ≡ target → target % 4 ≡ 0
      → Goes im 1 c (link rd target c)
  goes_jalr {rd = rd} {c = c} target h e aligned =
      goes_plain h (ap (λ x. jump rd x c) e ∙ ap (λ b. if b then Go (link rd target c) else Fault) (eq-eqb (target % 4) 0 aligned))

  -- a service after which the run goes on
  pub goes_svc : {im : Image W E} {c d : Config W} → im.fetch c.pc ≡ Some Ecall → im.serve (next c) ≡ Resumes d → Goes im 1 c d
  goes_svc h e = goes_plain h (ap after e)

  -- a service that ends the run
  pub ends_svc : (im : Image W E) (c : Config W) {e : E} {w : W} → im.fetch c.pc ≡ Some Ecall
      → im.serve (next c) ≡ Ends e w → step im c ≡ Halt e w
  ends_svc im c h e = step_is im c h ∙ ap after e

  continue_go : (r : Next W E) (f : Config W → Next W E) (b : Config W) (k : ℕ) (g : Config W → Ending W E) (o : Ending W E)
      → ((c : Config W) → f c ≡ Go b → g c ≡ o) → go_then r f ≡ Go b → continue r k g ≡ o
  continue_go (Go c) f b k g o more h = more c h
  continue_go (Halt e w) f b k g o more h = absurd cc
  continue_go Fault f b k g o more h = absurd cc

  run_steps : (im : Image W E) (n limit retired : ℕ) (a b : Config W) → steps im n a ≡ Go b
      → run im (n + limit) retired a ≡ run im limit (retired + n) b
  unfolding steps run
  run_steps im zero limit retired a b h =
      let e : 0 + limit ≡ limit = omega arith in
      let z : retired ≡ retired + 0 = omega arith in
      ap (λ k. run im k retired a) e ∙ ap (λ k. run im limit k a) z ∙ ap (λ x. run im limit (retired + 0) x) (go_same (Go a) a b refl h)
  run_steps im (suc n) limit retired a b h =
      let e : suc n + limit ≡ suc (n + limit) = omega arith in
      let z : retired + 1 + n ≡ retired + suc n = omega arith in
      let more : (c : Config W) → steps im n c ≡ Go b → run im (n + limit) (retired + 1) c ≡ run im limit (retired + suc n) b = λ c hc. run_steps im n limit (retired + 1) c b hc ∙ ap (λ k. run im limit k b) z in
      ap (λ k. run im k retired a) e ∙ continue_go (step im a) (steps im n) b (retired + 1) (run im (n + limit) (retired + 1)) (run im limit (retired + suc n) b) more h

  -- a run goes on behind its first n instructions
  pub run_goes : {im : Image W E} {n : ℕ} {a b : Config W} (limit retired : ℕ) → Goes im n a b
      → run im (n + limit) retired a ≡ run im limit (retired + n) b
  run_goes {im} {n} {a} {b} limit retired p = run_steps im n limit retired a b p.runs

  -- a run that comes to a service that ends it, within its limit
  pub run_ends : {im : Image W E} {n limit : ℕ} {a b : Config W} {e : E} {w : W} → Goes im n a b
      → step im b ≡ Halt e w → n + 1 ≤ limit → run im limit 0 a ≡ Over e w (n + 1)
  unfolding run
  run_ends {im} {n} {limit} {a} {b} {e} {w} p h within =
      let rest : ℕ = limit - (n + 1) in
      let l : limit ≡ n + suc rest = omega arith in
      let z : 0 + n + 1 ≡ n + 1 = omega arith in
      ap (λ k. run im k 0 a) l ∙ run_goes (suc rest) 0 p ∙ ap (λ r. continue r (0 + n + 1) (run im rest (0 + n + 1))) h ∙ ap (Over e w) z

  pub has_front : (im : Image W E) (p : ℕ) (ops more : List Op) → Has im p (ops ++ more) → Has im p ops
  has_front im p [] more h = tt
  has_front im p (op ∷ ops) more h = (h.0, has_front im (p + 4) ops more h.1)

  pub has_back : (im : Image W E) (p : ℕ) (ops more : List Op) → Has im p (ops ++ more) → Has im (p + 4 * length ops) more
  has_back im p [] more h = let e : p ≡ p + 4 * 0 = omega arith in subst (λ q. Has im q more) e h
  has_back im p (op ∷ ops) more h =
      let e : p + 4 + 4 * length ops ≡ p + 4 * length (op ∷ ops) = omega arith in
      subst (λ q. Has im q more) e (has_back im (p + 4) ops more h.1)
