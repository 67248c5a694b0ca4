-- many word steps of one of the two machines of the work on tables are those of the work
use Rattle.std.proofs.Common.{◌≡◌, ℕ, refl, sym, subst}
use Rattle.std.specs.{Prelude.Option, Option.option_map}
use Rattle.shm_graph.specs.declared.ask.Ask.{Ask}
use Rattle.shm_singles.specs.Steps.{Lives, LivesAnswer, lives_control}
use Rattle.shm_script.specs.declared.log.Answer.{Answer}
use Rattle.shm_table.specs.Command.{CommandCall, command_control}
use Rattle.shm_session.specs.Working.{Worked, HasWorked}
use Rattle.shm_session.proofs.Working.{IsPart, part_worked}
use Rattle.shm_sitting.specs.{declared.work.{Work.Work, WorkAnswer.WorkAnswer}, Work.work_control}
use Rattle.shm_sitting.specs.declared.work.Work.TheVariants as work
use Rattle.shm_sitting.specs.declared.work.WorkAnswer.TheVariants as answer

lives_part : IsPart lives_control work_control work.Lives answer.Lives
lives_part = record { asks = λ m. refl; after = λ m n. refl; turns = λ m n. refl; finished = λ m. refl }

command_part : IsPart command_control work_control work.Command answer.Command
command_part = record { asks = λ m. refl; after = λ m n. refl; turns = λ m n. refl; finished = λ m. refl }

module _ {W : Type 0} (made : W → Ask → W → Type 0) (seen : W → Ask → W → ℕ) (n : ℕ) (v : Work) (w : W) (a : Option WorkAnswer) where
  abbrev Ends : Work → ℕ → Work → W → Option WorkAnswer → Type 0
  Ends p left m u o = HasWorked work_control made seen n p w (record { left = left; machine = m; words = u; answer = o })

  pub life_ran : (m : Lives) → v ≡ work.Lives m → (z : Worked Lives W LivesAnswer) → HasWorked lives_control made seen n m w z → a ≡ option_map answer.Lives z.answer → Ends v z.left (work.Lives z.machine) z.words a
  life_ran m e z h g =
      subst (λ (p : Work). Ends p z.left (work.Lives z.machine) z.words a) (sym e)
      (subst (Ends (work.Lives m) z.left (work.Lives z.machine) z.words) (sym g) (part_worked lives_control work_control work.Lives answer.Lives lives_part made seen n m w z h))

  pub command_ran : (m : CommandCall) → v ≡ work.Command m → (z : Worked CommandCall W Answer) → HasWorked command_control made seen n m w z → a ≡ option_map answer.Command z.answer → Ends v z.left (work.Command z.machine) z.words a
  command_ran m e z h g =
      subst (λ (p : Work). Ends p z.left (work.Command z.machine) z.words a) (sym e)
      (subst (Ends (work.Command m) z.left (work.Command z.machine) z.words) (sym g) (part_worked command_control work_control work.Command answer.Command command_part made seen n m w z h))
