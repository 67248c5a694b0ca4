-- what a call did, by where it ended
use Rattle.std.proofs.Common.{◌≡◌, ◌≢◌, ℕ, ◌<◌, List, drop, map, ap, sym, ◌∙◌, subst, arith, inl, inr, ◌⊎◌}
use Rattle.std.specs.{Prelude.{Option, Some, None, Result, Ok, Err, IfOk, IfErr}, declared.alloc.AllocError.AllocError}
use Rattle.std.specs.declared.io.ErrorKind.{ErrorKind, TheVariants.OutOfMemory}
use Rattle.shm_io.specs.{Faults.{NoFault, Rose}, Reading.{LosesFront, TakesFront}}
use Rattle.shm_program.specs.Commands.{Ends, EndsUnread}
use Rattle.shm_program.specs.Outcomes.{JobAnswers, IsCall, IsWanting, IsWritten, Misused, Sides, usage_text}
use Rattle.shm_program.specs.{Reads.{IsRead, IsUnread, limit_of, most_of}, Words.{NamesCommand, job_of}}
use Rattle.shm_program.specs.declared.{answer.Reply.Reply, outcome.Finished.{Finished, TheVariants.Neither}}
use Rattle.shm_program.specs.declared.words.Job.{Job}
use Rattle.shm_program.proofs.Commands.{command_named}
use Rattle.shm_program.proofs.TopAnswers.{Said, complete, done_written, faulty, refused_written, said, same_job}

-- ---- what was read

-- a front of no bytes is nothing
loses_none : (before after : Option (List ℕ)) (n : ℕ) → LosesFront before after n → n ≡ 0 → after ≡ before
loses_none None after n l z = l
loses_none (Some left) after n l z = let few = l.1 in let none : l.0 ≡ 0 = omega (arith, few, z) in l.2 ∙ ap (λ (k : ℕ). Some (drop k left)) none

pub loses_nothing : (before after : Option (List ℕ)) (n : ℕ) → after ≡ before → LosesFront before after n
loses_nothing None after n e = e
loses_nothing (Some left) after n e = (0, omega arith, e)

takes_loses : (before after : Option (List ℕ)) (n : ℕ) (taken : List ℕ) → TakesFront before after n taken → LosesFront before after n
takes_loses None after n taken t = t
takes_loses (Some left) after n taken t = (n, omega arith, t.left)

-- the limit of the job that the words ask for is the most that is read
most_at : (words : List (List ℕ)) (job : Job) → job_of words ≡ Some job → limit_of job ≡ most_of (job_of words)
most_at words job asked = sym (ap most_of asked)

lost_at : (words : List (List ℕ)) (job : Job) (before after : Option (List ℕ)) → job_of words ≡ Some job → LosesFront before after (limit_of job) → LosesFront before after (most_of (job_of words))
lost_at words job before after asked lost = subst (λ (n : ℕ). LosesFront before after n) (most_at words job asked) lost

some_none : {A : Type 0} (o : Option A) (x : A) → o ≡ Some x → o ≡ None → ⊥
some_none o x e f = absurd (cc)

-- nothing failed where no fault was counted
unfailed : (before after : ℕ) → NoFault before after → Rose before after → ⊥
unfailed before after none (inl more) = omega (arith, none.same, more)
unfailed before after none (inr end) = none.not_at_end end

-- ---- the text

-- what is written of an answer with this status
abbrev Wrote : Sides → Sides → ℕ → ℕ → List ℕ → Type 0
Wrote old new code answer text = IsWritten old.held old.write_faults new.held new.write_faults answer code text

-- a write that failed is told by its status
wrote_well : (old new : Sides) (code answer : ℕ) (text : List ℕ) → Wrote old new code answer text → code ≢ 5 → new.write_faults ≡ old.write_faults
wrote_well old new code answer text w e = elim w.ends [ inl same ↦ (w.whole same).1 | inr five ↦ absurd (e five) ]

-- where an answer was written no read and no write failed
not_failed : (code : ℕ) → (code ≡ 0) ⊎ ((code ≡ 2) ⊎ (code ≡ 3)) → (code ≢ 4) × (code ≢ 5)
not_failed code (inl z) = (λ e. omega (arith, z, e), λ e. omega (arith, z, e))
not_failed code (inr (inl z)) = (λ e. omega (arith, z, e), λ e. omega (arith, z, e))
not_failed code (inr (inr z)) = (λ e. omega (arith, z, e), λ e. omega (arith, z, e))

-- ---- the calls

module _ (words : List (List ℕ)) (old new : Sides) (code : ℕ) (made : Finished) where
  -- memory was wanting
  pub wanting : code ≡ 6 → NamesCommand words → LosesFront old.left new.left (most_of (job_of words)) → new.read_faults ≡ old.read_faults → new.held ≡ old.held → new.write_faults ≡ old.write_faults → made ≡ Neither → IsCall words old new code made
  wanting six names lost reads held writes none =
      record {
        status = inr (inr (inr (inr (inr six))));
        done = λ e. absurd (omega (arith, six, e));
        misused = λ e. absurd (omega (arith, six, e));
        refused = λ e. absurd (omega (arith, six, e));
        quiet = λ e. (reads, writes);
        read_failed = λ e. absurd (omega (arith, six, e));
        write_failed = λ e. absurd (omega (arith, six, e));
        no_memory = λ e. (names, held, none);
        usage = λ e. inr (inr six);
        complete = λ job asks source sink bytes left input. inr six;
        faulty = λ job asks source sink bytes text left is. inr six;
        within = lost;
        unread = λ z. (loses_none old.left new.left _ lost z, reads, λ e. omega (arith, six, e));
        reads_well = λ e. reads;
        writes_well = λ e. writes;
      }

  -- a read failed
  failing : (job : Job) → job_of words ≡ Some job → code ≡ 4 → Rose old.read_faults new.read_faults → LosesFront old.left new.left (most_of (job_of words)) → 0 < most_of (job_of words) → new.held ≡ old.held → new.write_faults ≡ old.write_faults → made ≡ Neither → IsCall words old new code made
  failing job asked four rose lost some held writes none =
      record {
        status = inr (inr (inr (inl four)));
        done = λ e. absurd (omega (arith, four, e));
        misused = λ e. absurd (omega (arith, four, e));
        refused = λ e. absurd (omega (arith, four, e));
        quiet = λ e. absurd ((not_failed code e).0 four);
        read_failed = λ e. (rose, held, none);
        write_failed = λ e. absurd (omega (arith, four, e));
        no_memory = λ e. absurd (omega (arith, four, e));
        usage = λ e. absurd (some_none (job_of words) job asked e);
        complete = λ other asks source sink bytes left input. absurd (unfailed _ _ source rose);
        faulty = λ other asks source sink bytes text left is. absurd (unfailed _ _ source rose);
        within = lost;
        unread = λ z. absurd (omega (arith, some, z));
        reads_well = λ e. absurd (e four);
        writes_well = λ e. writes;
      }

  -- the words weren't accepted
  pub misusing : (text : List ℕ) → text ≡ usage_text → job_of words ≡ None → new.left ≡ old.left → new.read_faults ≡ old.read_faults → made ≡ Neither → Wrote old new code 2 text → IsCall words old new code made
  misusing text line unknown same reads none w =
      record {
        status = elim w.ends [ inl two ↦ inr (inl two) | inr five ↦ inr (inr (inr (inr (inl five)))) ];
        done = λ e. absurd (other 0 (omega arith) (omega arith) e);
        misused = λ e. (text, it, (w.whole e).0);
        refused = λ e. absurd (other 3 (omega arith) (omega arith) e);
        quiet = λ e. (reads, wrote_well old new code 2 text w (not_failed code e).1);
        read_failed = λ e. absurd (other 4 (omega arith) (omega arith) e);
        write_failed = λ e. let f = w.failed e in (f.0, (text, inl it, f.1));
        no_memory = λ e. absurd (other 6 (omega arith) (omega arith) e);
        usage = λ e. elim w.ends [ inl two ↦ inl two | inr five ↦ inr (inl five) ];
        complete = λ job asks source sink bytes left input. absurd (some_none (job_of words) job asks unknown);
        faulty = λ job asks source sink bytes text left is. absurd (some_none (job_of words) job asks unknown);
        within = loses_nothing old.left new.left _ same;
        unread = λ z. (same, reads, λ e. other 4 (omega arith) (omega arith) e);
        reads_well = λ e. reads;
        writes_well = wrote_well old new code 2 text w;
      }
    where
      it : Misused words old.left new.left made text
      it = record { kept = none; faulty = unknown; read = same; line = line }

      other : (n : ℕ) → n ≢ 2 → n ≢ 5 → code ≡ n → ⊥
      other n two five e = elim w.ends [ inl z ↦ two (sym e ∙ z) | inr z ↦ five (sym e ∙ z) ]

  -- the bytes that were read were answered
  answering : (job : Job) (answer : ℕ) (text : List ℕ) → job_of words ≡ Some job → LosesFront old.left new.left (most_of (job_of words)) → new.read_faults ≡ old.read_faults → Said job old.left new.left answer made text → Wrote old new code answer text → IsCall words old new code made
  answering job answer text asked lost reads s w =
      record {
        status = elim w.ends [ inl same ↦ elim s [ inl d ↦ inl (same ∙ d.0) | inr r ↦ inr (inr (inl (same ∙ r.0))) ] | inr five ↦ inr (inr (inr (inr (inl five)))) ];
        done = λ e. let d = done_written answer code s w.ends e w.whole in (job, asked, (text, d.0, d.1.0));
        misused = λ e. absurd (other 2 (omega arith) (omega arith) (omega arith) e);
        refused = λ e. let r = refused_written answer code s w.ends e w.whole in (job, asked, (text, r.0, r.1.0));
        quiet = λ e. (reads, wrote_well old new code answer text w (not_failed code e).1);
        read_failed = λ e. absurd (other 4 (omega arith) (omega arith) (omega arith) e);
        write_failed = λ e. let f = w.failed e in (f.0, (text, inr (job, asked, elim s [ inl d ↦ inl d.1 | inr r ↦ inr r.1 ]), f.1));
        no_memory = λ e. absurd (other 6 (omega arith) (omega arith) (omega arith) e);
        usage = λ e. absurd (some_none (job_of words) job asked e);
        complete = λ own asks source sink bytes left input. inl (comes 0 sink (complete own old.left new.left bytes answer made text left input (mine own asks)));
        faulty = λ own asks source sink bytes fault left f. inl (comes 3 sink (faulty own old.left new.left bytes fault answer made text left f (mine own asks)));
        within = lost;
        unread = λ z. (loses_none old.left new.left _ lost z, reads, λ e. other 4 (omega arith) (omega arith) (omega arith) e);
        reads_well = λ e. reads;
        writes_well = wrote_well old new code answer text w;
      }
    where
      other : (n : ℕ) → n ≢ 0 → n ≢ 3 → n ≢ 5 → code ≡ n → ⊥
      other n none three five e = elim w.ends [ inl same ↦ elim s [ inl d ↦ none (sym e ∙ (same ∙ d.0)) | inr r ↦ three (sym e ∙ (same ∙ r.0)) ] | inr z ↦ five (sym e ∙ z) ]

      mine : (own : Job) → job_of words ≡ Some own → Said own old.left new.left answer made text
      mine own asks = subst (λ (j : Job). Said j old.left new.left answer made text) (same_job (job_of words) job own asked asks) s

      comes : (n : ℕ) → NoFault old.write_faults new.write_faults → answer ≡ n → code ≡ n
      comes n sink e = elim w.ends [ inl same ↦ same ∙ e | inr five ↦ absurd (unfailed _ _ sink (w.failed five).0) ]

  -- the bytes weren't read
  pub unreading : (job : Job) (status : ℕ) → job_of words ≡ Some job → IsUnread old.left old.read_faults new.left new.read_faults (limit_of job) status → code ≡ status → new.held ≡ old.held → new.write_faults ≡ old.write_faults → made ≡ Neither → IsCall words old new code made
  unreading job status asked u is held writes none =
      let lost = lost_at words job old.left new.left asked u.lost in
      elim u.ends [
        | inl four ↦ failing job asked (is ∙ four.0) four.1 lost (subst (λ (n : ℕ). 0 < n) (most_at words job asked) u.some) held writes none
        | inr six ↦ wanting (is ∙ six.0) (command_named words job asked) lost six.1 held writes none
      ]

  -- the bytes were read, and the answer to them written, unless memory was wanting for it
  pub replying : (job : Job) (bytes read : List ℕ) (answered : Result Reply AllocError) → job_of words ≡ Some job → IsRead old.left old.read_faults new.left new.read_faults (limit_of job) bytes → read ≡ bytes
      → IfOk answered (λ r. JobAnswers job read r.status r.finished r.text.items) → IfOk answered (λ r. made ≡ r.finished) → IfOk answered (λ r. Wrote old new code r.status r.text.items)
      → IfErr answered (λ _. IsWanting old.held old.write_faults new.held new.write_faults code made) → IsCall words old new code made
  replying job bytes read (Ok r) asked taken same answers kept w none =
      answering job r.status r.text.items asked (lost_at words job old.left new.left asked (takes_loses old.left new.left (limit_of job) bytes taken.front)) taken.quiet
      (said job old.left new.left old.read_faults new.read_faults bytes read r.status r.finished made r.text.items taken same answers kept) w
  replying job bytes read (Err e) asked taken same answers kept w none =
      wanting none.ends (command_named words job asked) (lost_at words job old.left new.left asked (takes_loses old.left new.left (limit_of job) bytes taken.front)) taken.quiet none.held none.quiet none.kept

-- ---- what the process ends with

-- all words are read: the call had those behind the first one
pub read_ends : {T E A : Type 0} (args : Result T E) (f : A → List ℕ) (behind : T → List A) (items : List A) (old new : Sides) (status : ℕ)
    → IfOk args (λ all. items ≡ behind all) → Ends (map f items) old new status → IfOk args (λ all. Ends (map f (behind all)) old new status)
read_ends (Ok all) f behind items old new status same ends = subst (λ xs. Ends (map f xs) old new status) same ends
read_ends (Err e) f behind items old new status same ends = tt

-- one of all words can't be read: the call had no words, and no memory was wanting for them
pub unread_ends : {T E : Type 0} (args : Result T E) (kind : E → ErrorKind) (words : List (List ℕ)) (old new : Sides) (status : ℕ)
    → IfErr args (λ _. job_of words ≡ None) → IfErr args (λ e. kind e ≡ OutOfMemory → ⊥) → Ends words old new status → IfErr args (λ e. EndsUnread (kind e) old new status)
unread_ends (Ok x) kind words old new status none wanting ends = tt
unread_ends (Err e) kind words old new status none wanting ends = ((words, none, ends), λ wants. absurd (wanting wants))
