-- what a call writes is reported of what it read
use Rattle.std.proofs.Common.{◌≡◌, ◌*◌, ℕ, sym, subst, refl, List, [], ◌++◌}
use Rattle.std.specs.Prelude.{Option, Some, None, MatchOption}
use Rattle.shm_headline.specs.Headline.{Reported, ReportedCut}
use Rattle.shm_io.specs.Writing.{Appends}
use Rattle.shm_script.specs.Values.{Traced}
use Rattle.shm_team.specs.declared.team.Ran.{Ran as Team}
use Rattle.shm_program.specs.declared.outcome.Finished.{Finished, TheVariants.{Polled, Ran, Rescued}}
use Rattle.shm_program.specs.declared.words.{Form.TheVariants.Report, Job.Job}
use Rattle.shm_program.specs.declared.words.Job.TheVariants.{Poll, Replay, Rescue, Run}
use Rattle.shm_program.specs.{Outcomes.{Asks, Done, IsCall, Sides, Spells, Writes}, Reads.ReadsAll}
use Rattle.shm_program.specs.{Replays.{IsLimitedTold, IsTeamTold, IsTold, team_pool}, Words.job_of}
use Rattle.shm_reported.specs.Jobs.{HasWritten, WritesReport}
use Rattle.shm_reported.proofs.Headed.{limited_reported, replay_reported, team_reported}

-- ---- what is written of a run

pub replay_told : (bytes : List ℕ) (t : Traced) (finished : Finished) (text : List ℕ) → Spells bytes t → IsTold Report t finished text → Reported bytes text
replay_told bytes t finished text s x = subst (λ (y : List ℕ). Reported bytes y) (sym x.1) (replay_reported t x.0.run.closed x.0.run.logs.items bytes s.trace s.short s.text x.0.replay)

pub run_told : (how : Team → Finished) (bytes : List ℕ) (t : Traced) (finished : Finished) (text : List ℕ) → Spells bytes t → IsTeamTold how Report t finished text → Reported bytes text
run_told how bytes t finished text s x = subst (λ (y : List ℕ). Reported bytes y) (sym x.1) (team_reported t (team_pool x.0.run x.0.turns) x.0.run.logs.items bytes s.trace s.short s.text x.0.team)

pub limited_told : (turns : ℕ) (bytes : List ℕ) (t : Traced) (finished : Finished) (text : List ℕ) → Spells bytes t → IsLimitedTold turns t finished text → ReportedCut bytes text
limited_told turns bytes t finished text s x =
    let r = x.told.0 in
    subst (λ (y : List ℕ). ReportedCut bytes y) (sym x.told.1) (limited_reported t turns (team_pool r.run r.turns) r.run.logs.items bytes s.trace s.short s.text (record { scripts = x.scripts; limited = x.limited; run = r.team }))

-- ---- what a call read and wrote

all_read : (before after : Option (List ℕ)) (bytes got : List ℕ) → before ≡ Some bytes → ReadsAll before after got → (got ≡ bytes) × (after ≡ Some [])
all_read before after bytes got e r = subst (λ (x : Option (List ℕ)). MatchOption x (after ≡ None) (λ left. (got ≡ left) × (after ≡ Some []))) e r

appended : (before after : Option (List ℕ)) (held text : List ℕ) → before ≡ Some held → Appends before after text → after ≡ Some (held ++ text)
appended before after held text e a = subst (λ (x : Option (List ℕ)). MatchOption x (after ≡ None) (λ held. after ≡ Some (held ++ text))) e a

-- the source gave all its bytes, and the text is reported of them
abbrev Ends : (List ℕ → List ℕ → Type 0) → List ℕ → Option (List ℕ) → List ℕ → Type 0
Ends Is bytes after text = (after ≡ Some []) × Is bytes text

ends : (Is : List ℕ → List ℕ → Type 0) (before after : Option (List ℕ)) (bytes got text : List ℕ) → before ≡ Some bytes → ReadsAll before after got → Is got text → Ends Is bytes after text
ends Is before after bytes got text e r x = let q = all_read before after bytes got e r in (q.1, subst (λ (b : List ℕ). Is b text) q.0 x)

reported : (job : Job) → WritesReport job → (before after : Option (List ℕ)) (bytes : List ℕ) → before ≡ Some bytes → (made : Finished) (text : List ℕ) → Done job before after made text → Ends Reported bytes after text
reported (Replay Report) w before after bytes e made text d = ends Reported before after bytes d.bytes text e d.read (replay_told d.bytes d.is.0 made text d.is.1 d.is.2)
reported (Run Report) w before after bytes e made text d = ends Reported before after bytes d.bytes text e d.read (run_told Ran d.bytes d.is.0 made text d.is.1 d.is.2)
reported (Rescue Report medics) w before after bytes e made text d = ends Reported before after bytes d.bytes text e d.read (run_told Rescued d.bytes d.is.0 made text d.is.1 d.is.2)
reported (Poll q None) w before after bytes e made text d = ends Reported before after bytes d.bytes text e d.read (run_told Polled d.bytes d.is.0 made text d.is.1 d.is.2)
reported _ w before after bytes e made text d = absurd w

same_job : (x : Option Job) (a b : Job) → x ≡ Some a → x ≡ Some b → a ≡ b
same_job x a b p q = cc

-- what is said of what is done of a job is said of a call whose words ask for it
written : (Is : List ℕ → List ℕ → Type 0) (words : List (List ℕ)) (job : Job) (old new : Sides) (made : Finished) (bytes held : List ℕ) → ((text : List ℕ) → Done job old.left new.left made text → Ends Is bytes new.left text)
    → job_of words ≡ Some job → IsCall words old new 0 made → old.held ≡ Some held → HasWritten Is bytes held new
written Is words job old new made bytes held of asks call shown =
    let d : Asks words (λ j. Writes old.held new.held (Done j old.left new.left made)) = call.done refl in
    let text : List ℕ = d.2.0 in
    let x = of text (subst (λ (j : Job). Done j old.left new.left made text) (same_job (job_of words) d.0 job d.1 asks) d.2.1) in
    (text, x.0, appended old.held new.held held text shown d.2.2, x.1)

pub headed : (words : List (List ℕ)) (job : Job) (old new : Sides) (made : Finished) (bytes held : List ℕ) → job_of words ≡ Some job → WritesReport job → IsCall words old new 0 made → old.left ≡ Some bytes → old.held ≡ Some held → HasWritten Reported bytes held new
headed words job old new made bytes held asks w call left shown = written Reported words job old new made bytes held (reported job w old.left new.left bytes left made) asks call shown

pub headed_cut : (words : List (List ℕ)) (q most : ℕ) (old new : Sides) (made : Finished) (bytes held : List ℕ) → job_of words ≡ Some (Poll q (Some most)) → IsCall words old new 0 made → old.left ≡ Some bytes → old.held ≡ Some held → HasWritten ReportedCut bytes held new
headed_cut words q most old new made bytes held asks call left shown =
    written ReportedCut words (Poll q (Some most)) old new made bytes held
    (λ text d. ends ReportedCut old.left new.left bytes d.bytes text left d.read (limited_told (q * most) d.bytes d.is.0 made text d.is.1 d.is.2))
    asks call shown
