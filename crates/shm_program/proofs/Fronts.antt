-- what a call writes is a front of one text
use Rattle.std.proofs.Common.{◌≡◌, ℕ, ◌≤◌, ◌⊎◌, List, [], ◌++◌, length, take, refl, sym, ap, ◌∙◌, subst, arith, inl, inr}
use Rattle.std.proofs.lemmas.List.{append-nil, take_all}
use Rattle.std.specs.Prelude.{Option, Some, None}
use Rattle.shm_io.specs.Writing.{Appends, AppendsFront}
use Rattle.shm_program.specs.declared.{outcome.Finished.Finished, words.Job.Job}
use Rattle.shm_program.specs.declared.words.Job.TheVariants.{Replay, Print, Run, Rescue, Audit, Migrate, Make, Draw, Poll, Tree}
use Rattle.shm_program.specs.Outcomes.{JobAnswers, Decided, Done, IsCall, IsDone, IsStatus, Misused, Refused, Sides}
use Rattle.shm_program.specs.Reads.{Reads, limit_of, most_of}
use Rattle.shm_program.specs.Streams.{AreFirst, Grows, IsAnswered, IsStopped, IsTextOf, WritesFrontOf}
use Rattle.shm_program.specs.Words.{AreDetermined, job_of}
use Rattle.shm_program.proofs.{ImageSizes.{image_short, unrefused}, SameCalls.{done_bytes, refused_bytes}}
use Rattle.shm_program.proofs.{SameTexts.answers_same, TopAnswers.same_job}

-- ---- what was read

-- the first bytes that there are
first_of : (most : ℕ) (before : Option (List ℕ)) → (bytes : List ℕ) × AreFirst most before bytes
first_of most None = ([], omega arith)
first_of most (Some left) = (take most left, refl)

-- what was done was done with no more bytes than the job reads
done_few : (job : Job) (before after : Option (List ℕ)) (bytes : List ℕ) (made : Finished) (x : List ℕ) → Reads job before after bytes → IsDone job bytes made x → length bytes ≤ limit_of job
done_few (Replay form) before after bytes made x r (t, a, h) = let short = a.short in omega (arith, short)
done_few Print before after bytes made x r (t, a, h) = let short = a.short in omega (arith, short)
done_few (Run form) before after bytes made x r (t, a, h) = let short = a.short in omega (arith, short)
done_few (Rescue form medics) before after bytes made x r (t, a, h) = let short = a.short in omega (arith, short)
done_few (Poll q limit) before after bytes made x r (t, a, h) = let short = a.short in omega (arith, short)
done_few Tree before after bytes made x r (s, a, h) = let short = a.2 in omega (arith, short)
done_few Audit before after bytes made x r h = let short = image_short bytes h.faultless in omega (arith, short)
done_few Migrate before after bytes made x r h = let short = image_short bytes (unrefused bytes h.allowed) in omega (arith, short)
done_few (Make start size) before after bytes made x r h = let none : length bytes ≡ 0 = ap length r.0 in omega (arith, none)
done_few (Draw start size) before after bytes made x r h = let none : length bytes ≡ 0 = ap length r.0 in omega (arith, none)

done_first : (job : Job) (before after : Option (List ℕ)) (made : Finished) (x : List ℕ) (d : Done job before after made x) → AreFirst (limit_of job) before d.bytes
done_first job None after made x d = done_few job None after d.bytes made x d.read d.is
done_first job (Some left) after made x d = done_bytes job left d.bytes after made x d.read d.is

refused_first : (job : Job) (before after : Option (List ℕ)) (made : Finished) (x : List ℕ) (r : Refused job before after made x) → AreFirst (limit_of job) before r.bytes
refused_first job None after made x r = r.few
refused_first job (Some left) after made x r = refused_bytes job left r.bytes x after r.few r.read r.is

none_first : (before : Option (List ℕ)) → AreFirst 0 before []
none_first None = omega arith
none_first (Some left) = refl

-- ---- the text

some_none : {A : Type 0} (o : Option A) (x : A) → o ≡ Some x → o ≡ None → ⊥
some_none o x e f = absurd (cc)

-- the words and the bytes give one text, but for a run or `tree`
pub text_same : (ws : List (List ℕ)) (bytes x y : List ℕ) → AreDetermined ws → IsTextOf ws bytes x → IsTextOf ws bytes y → x ≡ y
text_same ws bytes x y e (inl a) (inl b) = a.1 ∙ sym b.1
text_same ws bytes x y e (inl a) (inr (job, asked, h)) = absurd (some_none (job_of ws) job asked a.0)
text_same ws bytes x y e (inr (job, asked, h)) (inl b) = absurd (some_none (job_of ws) job asked b.0)
text_same ws bytes x y e (inr (job, asked, (m, one, h))) (inr (job2, asked2, (n, two, k))) =
    let same : job2 ≡ job = same_job (job_of ws) job2 job asked2 asked in
    answers_same job bytes m n one two x y (e job asked) h (subst (λ (j : Job). JobAnswers j bytes n two y) same k)

-- ---- the statuses

unstopped : (code : ℕ) → IsAnswered code → IsStopped code → ⊥
unstopped code (inl a) (inl b) = omega (arith, a, b)
unstopped code (inl a) (inr b) = omega (arith, a, b)
unstopped code (inr (inl a)) (inl b) = omega (arith, a, b)
unstopped code (inr (inl a)) (inr b) = omega (arith, a, b)
unstopped code (inr (inr a)) (inl b) = omega (arith, a, b)
unstopped code (inr (inr a)) (inr b) = omega (arith, a, b)

answered_uncut : (code : ℕ) → IsAnswered code → code ≡ 5 → ⊥
answered_uncut code (inl a) five = omega (arith, a, five)
answered_uncut code (inr (inl a)) five = omega (arith, a, five)
answered_uncut code (inr (inr a)) five = omega (arith, a, five)

stopped_uncut : (code : ℕ) → IsStopped code → code ≡ 5 → ⊥
stopped_uncut code (inl a) five = omega (arith, a, five)
stopped_uncut code (inr a) five = omega (arith, a, five)

-- ---- what was written

-- a whole text is a front of it
all_grows : (code : ℕ) (before after : Option (List ℕ)) (text : List ℕ) → IsAnswered code → Appends before after text → Grows code before after text
all_grows code None after text answered a = a
all_grows code (Some held) after text answered a =
    record {
      many = length text;
      front = a ∙ ap (λ (xs : List ℕ). Some (held ++ xs)) (sym (take_all (length text) text (omega arith)));
      none = λ s. absurd (unstopped code answered s);
      cut = λ five. absurd (answered_uncut code answered five);
      whole = λ e. refl;
    }

-- a front that isn't all
front_grows : (code : ℕ) (before after : Option (List ℕ)) (text : List ℕ) → code ≡ 5 → AppendsFront before after text → Grows code before after text
front_grows code None after text five a = a
front_grows code (Some held) after text five (n, fewer, is) =
    record { many = n; front = is; none = λ s. absurd (stopped_uncut code s five); cut = λ e. fewer; whole = λ e. absurd (answered_uncut code e five) }

-- nothing is a front of each text
stopped_grows : (code : ℕ) (before after : Option (List ℕ)) (text : List ℕ) → IsStopped code → after ≡ before → Grows code before after text
stopped_grows code None after text stopped same = same
stopped_grows code (Some held) after text stopped same =
    record { many = 0; front = same ∙ ap Some (sym (append-nil held)); none = λ s. refl; cut = λ five. absurd (stopped_uncut code stopped five); whole = λ e. absurd (unstopped code e stopped) }

-- ---- one call

module _ (ws : List (List ℕ)) (old new : Sides) (code : ℕ) (made : Finished) where
  abbrev Wrote : Type 0
  Wrote = WritesFrontOf ws old new code

  told : (bytes text : List ℕ) → AreFirst (most_of (job_of ws)) old.left bytes → IsTextOf ws bytes text → Grows code old.held new.held text → Wrote
  told bytes text read is grown = record { bytes = bytes; read = read; text = text; is = inr is; grown = grown }

  -- the bytes of a job that the words ask for
  asked_first : (job : Job) (bytes : List ℕ) → job_of ws ≡ Some job → AreFirst (limit_of job) old.left bytes → AreFirst (most_of (job_of ws)) old.left bytes
  asked_first job bytes asked read = subst (λ (n : ℕ). AreFirst n old.left bytes) (sym (ap most_of asked)) read

  done_told : (job : Job) (text : List ℕ) → job_of ws ≡ Some job → Done job old.left new.left made text → Grows code old.held new.held text → Wrote
  done_told job text asked d grown = told d.bytes text (asked_first job d.bytes asked (done_first job old.left new.left made text d)) (inr (job, asked, (0, made, inl (refl, d.is)))) grown

  refused_told : (job : Job) (text : List ℕ) → job_of ws ≡ Some job → Refused job old.left new.left made text → Grows code old.held new.held text → Wrote
  refused_told job text asked r grown = told r.bytes text (asked_first job r.bytes asked (refused_first job old.left new.left made text r)) (inr (job, asked, (3, made, inr (refl, r.kept, r.is)))) grown

  misused_told : (text : List ℕ) → Misused ws old.left new.left made text → Grows code old.held new.held text → Wrote
  misused_told text m grown = told [] text (subst (λ (n : ℕ). AreFirst n old.left []) (sym (ap most_of m.faulty)) (none_first old.left)) (inl (m.faulty, m.line)) grown

  decided_told : (text : List ℕ) → Decided ws old.left new.left made text → Grows code old.held new.held text → Wrote
  decided_told text (inl m) grown = misused_told text m grown
  decided_told text (inr (job, asked, inl d)) grown = done_told job text asked d grown
  decided_told text (inr (job, asked, inr r)) grown = refused_told job text asked r grown

  -- a call that stopped wrote nothing
  stopped_told : IsStopped code → new.held ≡ old.held → Wrote
  stopped_told stopped same =
      let first = first_of (most_of (job_of ws)) old.left in
      record { bytes = first.0; read = first.1; text = []; is = inl stopped; grown = stopped_grows code old.held new.held [] stopped same }

  wrote : IsCall ws old new code made → IsStatus code → Wrote
  wrote call (inl zero) = let (job, asked, (text, d, all)) = call.done zero in done_told job text asked d (all_grows code old.held new.held text (inl zero) all)
  wrote call (inr (inl two)) = let (text, m, all) = call.misused two in misused_told text m (all_grows code old.held new.held text (inr (inl two)) all)
  wrote call (inr (inr (inl three))) = let (job, asked, (text, r, all)) = call.refused three in refused_told job text asked r (all_grows code old.held new.held text (inr (inr three)) all)
  wrote call (inr (inr (inr (inl four)))) = stopped_told (inl four) (call.read_failed four).1
  wrote call (inr (inr (inr (inr (inl five))))) = let (rose, (text, d, front)) = call.write_failed five in decided_told text d (front_grows code old.held new.held text five front)
  wrote call (inr (inr (inr (inr (inr six))))) = stopped_told (inr six) (call.no_memory six).1

  pub writes_front : IsCall ws old new code made → Wrote
  writes_front call = wrote call call.status

-- ---- two calls

-- a call that stopped wrote a front of any text
any_front : (code : ℕ) (before after : Option (List ℕ)) (x y : List ℕ) → IsStopped code → Grows code before after x → Grows code before after y
any_front code None after x y stopped grown = grown
any_front code (Some held) after x y stopped grown =
    stopped_grows code (Some held) after y stopped (grown.front ∙ (ap (λ (n : ℕ). Some (held ++ take n x)) (grown.none stopped) ∙ ap Some (append-nil held)))

first_same : (most : ℕ) (before : Option (List ℕ)) (left bytes : List ℕ) → before ≡ Some left → AreFirst most before bytes → bytes ≡ take most left
first_same most before left bytes told read = subst (λ (o : Option (List ℕ)). AreFirst most o bytes) told read

module _ (ws : List (List ℕ)) (determined : AreDetermined ws) (left : List ℕ) (old new before after : Sides) (code other : ℕ) where
  abbrev Both : Type 0
  Both = (text : List ℕ) × Grows code old.held new.held text × Grows other before.held after.held text

  one_text : (a : WritesFrontOf ws old new code) (b : WritesFrontOf ws before after other) → a.bytes ≡ b.bytes → IsStopped code ⊎ IsTextOf ws a.bytes a.text → IsStopped other ⊎ IsTextOf ws b.bytes b.text → Both
  one_text a b same (inl stopped) r = (b.text, any_front code old.held new.held a.text b.text stopped a.grown, b.grown)
  one_text a b same (inr s) (inl stopped) = (a.text, a.grown, any_front other before.held after.held b.text a.text stopped b.grown)
  one_text a b same (inr s) (inr r) =
      let texts : b.text ≡ a.text = text_same ws b.bytes b.text a.text determined r (subst (λ (xs : List ℕ). IsTextOf ws xs a.text) same s) in
      (a.text, a.grown, subst (λ (xs : List ℕ). Grows other before.held after.held xs) texts b.grown)

  pub both_fronts : old.left ≡ Some left → before.left ≡ Some left → WritesFrontOf ws old new code → WritesFrontOf ws before after other → Both
  both_fronts told again a b =
      let most = most_of (job_of ws) in
      one_text a b (first_same most old.left left a.bytes told a.read ∙ sym (first_same most before.left left b.bytes again b.read)) a.is b.is
