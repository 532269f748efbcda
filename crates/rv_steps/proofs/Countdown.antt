-- The small program runs as its rows say.
use Rattle.std.proofs.Common.{◌≡◌, ℕ, Bool, true, false, ◌==◌, if◌then◌else◌, List, [], ◌∷◌, ◌++◌, refl, ap, ap₂, subst, lit<, lit≤}
use Rattle.rv_steps.specs.Memory.{read, write}
use Rattle.rv_steps.specs.Arithmetic.{sum}
use Rattle.rv_steps.specs.Machine.{Config, Served, Resumes, Ends, Fails, step, run}
use Rattle.rv_steps.specs.Lower.{CodeIn, SpellsAll, WordsIn}
use Rattle.rv_steps.specs.MachineRun.{Answer, Resumed, Ended, Refused}
use Rattle.rv_steps.specs.Refines.{up, Agrees, Mirrors}
use Rattle.rv_steps.specs.Services as service
use Rattle.rv_steps.specs.Countdown.{Row, RowBelow, code_start, limit, program, words, memory, image, start, answer, made}
use Rattle.rv_steps.proofs.Lower.{code_in}
use Rattle.rv_steps.proofs.Outcomes.{one_outcome}
use Rattle.rv_steps.proofs.Runs.{run_up}

pub row : Row
unfolding read write sum step run
row = refl

spelled : SpellsAll code_start program words
spelled = (
  record { in_range = (lit< tt, lit< tt, lit< tt); word = refl },
  tt,
  (
    record { in_range = (lit< tt, lit< tt, lit< tt); word = refl },
    tt,
    (
      record { in_range = (lit< tt, lit< tt, lit< tt); word = refl },
      tt,
      (
        record { in_range = (lit< tt, lit< tt, lit< tt); word = refl },
        tt,
        (
          record { in_range = (lit< tt, lit< tt, lit< tt); word = refl },
          tt,
          (
            record { in_range = (lit< tt, lit< tt, lit< tt, refl); word = refl },
            (refl, lit< tt),
            (
              record { in_range = (lit< tt, lit< tt, lit< tt); word = refl },
              tt,
              (
                record { in_range = (lit< tt, lit< tt, lit< tt); word = refl },
                tt,
                (
                  record { in_range = tt; word = refl },
                  tt,
                  (
                    record { in_range = (lit< tt, lit< tt, lit< tt); word = refl },
                    tt,
                    (record { in_range = tt; word = refl }, tt, tt),
                  ),
                ),
              ),
            ),
          ),
        ),
      ),
    ),
  ),
)

there : WordsIn memory code_start words
unfolding read
there = (refl, (refl, (refl, (refl, (refl, (refl, (refl, (refl, (refl, (refl, (refl, tt)))))))))))

loaded : CodeIn image memory
loaded = code_in image memory code_start program words (λ q. refl) refl (lit≤ tt) (lit< tt) spelled there

-- the services of both machines, by the two tests of a7
abbrev served : Bool → Bool → Config (List ℕ) → Served (List ℕ) ℕ
served prints ends c =
    if prints then Resumes (record c { world = c.world ++ c.a0 ∷ [] }) else if ends then Ends c.a7 c.world else Fails

abbrev answered : Bool → Bool → ℕ → Config (List ℕ) → Answer (List ℕ) ℕ
answered prints ends n c =
    if prints then Resumed (up image n c) (c.world ++ c.a0 ∷ []) else if ends then Ended c.a7 c.world else Refused

same_config : (r : Served (List ℕ) ℕ) (c d : Config (List ℕ)) → r ≡ Resumes c → r ≡ Resumes d → c ≡ d
same_config r c d p q = cc

same_end : (r : Served (List ℕ) ℕ) (e e1 : ℕ) (w w1 : List ℕ) → r ≡ Ends e w → r ≡ Ends e1 w1 → (e ≡ e1) × (w ≡ w1)
same_end r e e1 w w1 p q = (cc, cc)

resumes_by : (n : ℕ) (c d : Config (List ℕ)) (prints ends : Bool) → CodeIn image c.mem
    → served prints ends c ≡ Resumes d
    → (answered prints ends n c ≡ Resumed (up image n d) d.world) × CodeIn image d.mem
resumes_by n c d true ends code h =
    let printed : Config (List ℕ) = record c { world = c.world ++ c.a0 ∷ [] } in
    let e = same_config (Resumes printed) printed d refl h in
    (ap (λ x. Resumed (up image n x) x.world) e, subst (λ x. CodeIn image x.mem) e code)
resumes_by n c d false true code h = absurd cc
resumes_by n c d false false code h = absurd cc

ends_by : (n : ℕ) (c : Config (List ℕ)) (e : ℕ) (w : List ℕ) (prints ends : Bool) → served prints ends c ≡ Ends e w
    → answered prints ends n c ≡ Ended e w
ends_by n c e w true ends h = absurd cc
ends_by n c e w false true h =
    let (number, world) = same_end (Ends c.a7 c.world) c.a7 e c.world w refl h in
    ap₂ Ended number world
ends_by n c e w false false h = absurd cc

mirrors : Mirrors image answer
mirrors = record {
  resumes = λ n c d code h. resumes_by n c d (c.a7 == service.print_int) (c.a7 == service.exit) code h;
  ends = λ n c e w code h. ends_by n c e w (c.a7 == service.print_int) (c.a7 == service.exit) h;
}

-- by the theorem of runs, and not by running it again
pub row_below : RowBelow
row_below =
    let (o, m, once) = one_outcome answer limit made [] in
    let over = subst (λ r. Agrees image limit r o) row (run_up image answer mirrors limit 0 start o loaded (lit≤ tt) m) in
    (o, m, over.0, over.1, over.2)
