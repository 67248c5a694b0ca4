-- what a call of the program writes is determined by its words and by what its source tells
use Rattle.std.proofs.Common.{◌≡◌, true, ℕ, ◌≤◌, ◌⊎◌, List, length, take, sym, ◌∙◌, subst, arith, inl, inr}
use Rattle.std.proofs.lemmas.List.{take_all}
use Rattle.std.specs.Prelude.{Option, Some, None}
use Rattle.shm_program.specs.declared.{outcome.Finished.Finished, words.Job.Job}
use Rattle.shm_program.specs.declared.words.Job.TheVariants.{Replay, Print, Run, Rescue, Audit, Migrate, Make, Draw, Poll, Tree}
use Rattle.shm_program.specs.Outcomes.{Asks, Decided, Done, IsDone, IsFaulty, Refused}
use Rattle.shm_program.specs.{Reads.{Reads, ReadsLimit, limit_of}, Words.{AreDetermined, is_determined, job_of}}
use Rattle.shm_program.proofs.{ImageSizes.{image_short, unrefused}, SameTexts.{done_or_faulty, done_same, faulty_same}}
use Rattle.shm_program.proofs.TopAnswers.{same_job}

-- the bytes of a source up to a limit that they keep
all_of : (limit : ℕ) (left bytes : List ℕ) → bytes ≡ left → length bytes ≤ limit → bytes ≡ take limit left
all_of limit left bytes e few = e ∙ sym (take_all limit left (subst (λ (xs : List ℕ). length xs ≤ limit) e few))

-- what was done was done with the bytes up to the limit
pub done_bytes : (job : Job) (left bytes : List ℕ) (after : Option (List ℕ)) (one : Finished) (x : List ℕ) → Reads job (Some left) after bytes → IsDone job bytes one x → bytes ≡ take (limit_of job) left
done_bytes (Replay form) left bytes after one x r (t, a, h) = all_of 1048577 left bytes r.0 (let short = a.short in omega (arith, short))
done_bytes Print left bytes after one x r (t, a, h) = all_of 1048577 left bytes r.0 (let short = a.short in omega (arith, short))
done_bytes (Run form) left bytes after one x r (t, a, h) = all_of 1048577 left bytes r.0 (let short = a.short in omega (arith, short))
done_bytes (Rescue form medics) left bytes after one x r (t, a, h) = all_of 1048577 left bytes r.0 (let short = a.short in omega (arith, short))
done_bytes (Poll q limit) left bytes after one x r (t, a, h) = all_of 1048577 left bytes r.0 (let short = a.short in omega (arith, short))
done_bytes Tree left bytes after one x r (s, a, h) = all_of 1048577 left bytes r.0 (let short = a.2 in omega (arith, short))
done_bytes Audit left bytes after one x r h = all_of 132185377 left bytes r.0 (let short = image_short bytes h.faultless in omega (arith, short))
done_bytes Migrate left bytes after one x r h = all_of 132185377 left bytes r.0 (let short = image_short bytes (unrefused bytes h.allowed) in omega (arith, short))
done_bytes (Make start size) left bytes after one x r h = r.0
done_bytes (Draw start size) left bytes after one x r h = r.0

-- and so was what was refused
pub refused_bytes : (job : Job) (left bytes x : List ℕ) (after : Option (List ℕ)) → length bytes ≤ limit_of job → Reads job (Some left) after bytes ⊎ ReadsLimit (limit_of job) (Some left) after bytes → IsFaulty job bytes x → bytes ≡ take (limit_of job) left
refused_bytes job left bytes x after few (inr r) f = r.1.0
refused_bytes (Replay form) left bytes x after few (inl r) f = all_of 1048577 left bytes r.0 few
refused_bytes Print left bytes x after few (inl r) f = all_of 1048577 left bytes r.0 few
refused_bytes (Run form) left bytes x after few (inl r) f = all_of 1048577 left bytes r.0 few
refused_bytes (Rescue form medics) left bytes x after few (inl r) f = all_of 1048577 left bytes r.0 few
refused_bytes (Poll q limit) left bytes x after few (inl r) f = all_of 1048577 left bytes r.0 few
refused_bytes Tree left bytes x after few (inl r) f = all_of 1048577 left bytes r.0 few
refused_bytes Audit left bytes x after few (inl r) f = all_of 132185377 left bytes r.0 few
refused_bytes Migrate left bytes x after few (inl r) f = all_of 132185377 left bytes r.0 few
refused_bytes (Make start size) left bytes x after few (inl r) f = absurd f
refused_bytes (Draw start size) left bytes x after few (inl r) f = absurd f

-- what is done is not refused
done_refused : (job : Job) (left : List ℕ) (after again : Option (List ℕ)) (one other : Finished) (x y : List ℕ) → Done job (Some left) after one x → Refused job (Some left) again other y → ⊥
done_refused job left after again one other x y a b =
    done_or_faulty job (take (limit_of job) left) one x y
    (subst (λ (xs : List ℕ). IsDone job xs one x) (done_bytes job left a.bytes after one x a.read a.is) a.is)
    (subst (λ (xs : List ℕ). IsFaulty job xs y) (refused_bytes job left b.bytes y again b.few b.read b.is) b.is)

-- a job gives one text, but for a run or `tree`
abbrev Given : Job → List ℕ → Option (List ℕ) → Finished → List ℕ → Type 0
Given job left after one x = Done job (Some left) after one x ⊎ Refused job (Some left) after one x

given_same : (job : Job) (left : List ℕ) (after again : Option (List ℕ)) (one other : Finished) (x y : List ℕ) → is_determined job ≡ true → Given job left after one x → Given job left again other y → x ≡ y
given_same job left after again one other x y e (inl a) (inl b) =
    done_same job (take (limit_of job) left) one other x y e
    (subst (λ (xs : List ℕ). IsDone job xs one x) (done_bytes job left a.bytes after one x a.read a.is) a.is)
    (subst (λ (xs : List ℕ). IsDone job xs other y) (done_bytes job left b.bytes again other y b.read b.is) b.is)
given_same job left after again one other x y e (inl a) (inr b) = absurd (done_refused job left after again one other x y a b)
given_same job left after again one other x y e (inr a) (inl b) = absurd (done_refused job left again after other one y x b a)
given_same job left after again one other x y e (inr a) (inr b) =
    faulty_same job (take (limit_of job) left) x y
    (subst (λ (xs : List ℕ). IsFaulty job xs x) (refused_bytes job left a.bytes x after a.few a.read a.is) a.is)
    (subst (λ (xs : List ℕ). IsFaulty job xs y) (refused_bytes job left b.bytes y again b.few b.read b.is) b.is)

some_none : {A : Type 0} (o : Option A) (x : A) → o ≡ Some x → o ≡ None → ⊥
some_none o x e f = absurd (cc)

-- the words and the bytes decide the text, but for a run or `tree`
pub decided_same : (ws : List (List ℕ)) (left : List ℕ) (after again : Option (List ℕ)) (one other : Finished) (x y : List ℕ) → AreDetermined ws → Decided ws (Some left) after one x → Decided ws (Some left) again other y → x ≡ y
decided_same ws left after again one other x y e (inl a) (inl b) = a.line ∙ sym b.line
decided_same ws left after again one other x y e (inl a) (inr (job, asked, h)) = absurd (some_none (job_of ws) job asked a.faulty)
decided_same ws left after again one other x y e (inr (job, asked, h)) (inl b) = absurd (some_none (job_of ws) job asked b.faulty)
decided_same ws left after again one other x y e (inr (job, asked, h)) (inr (job2, asked2, k)) =
    let same : job2 ≡ job = same_job (job_of ws) job2 job asked2 asked in
    given_same job left after again one other x y (e job asked) h (subst (λ (j : Job). Given j left again other y) same k)

pub asked_apart : (ws : List (List ℕ)) (left : List ℕ) (after again : Option (List ℕ)) (one other : Finished) (x y : List ℕ) → Asks ws (λ job. Done job (Some left) after one x) → Asks ws (λ job. Refused job (Some left) again other y) → ⊥
asked_apart ws left after again one other x y (job, asked, h) (job2, asked2, k) =
    let same : job2 ≡ job = same_job (job_of ws) job2 job asked2 asked in
    done_refused job left after again one other x y h (subst (λ (j : Job). Refused j (Some left) again other y) same k)
