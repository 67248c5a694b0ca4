-- machines that are made of others end alone where those do: a machine of calls, one of two machines, one word step, and a machine whose answers are told otherwise
use Rattle.std.proofs.Common.{ℕ, ◌+◌, []}
use Rattle.shm_graph.specs.declared.spot.Spot.{Spot}
use Rattle.plans.specs.declared.{calls.Calls.Calls, or.Or.{Or, TheVariants.{First, Second}}, word.Word.Word}

-- ---- calls of a plan

-- what a machine of calls knows of the words: what its call does, and what its plan does
abbrev pub calls_alone : {P C : Type 0} → (C → (Spot → ℕ) → Type 0) → (P → (Spot → ℕ) → Type 0) → Calls P C → (Spot → ℕ) → Type 0
calls_alone alone stands m w = alone m.call w × stands m.plan w

-- what it has left: what its call has, and what comes after the call
abbrev pub calls_left : {P C : Type 0} → (C → ℕ) → (P → ℕ) → Calls P C → ℕ
calls_left left rest m = left m.call + rest m.plan

-- ---- plans that know nothing of the words

-- nothing is known of the words
abbrev pub anything : {P : Type 0} → P → (Spot → ℕ) → Type 0
anything p w = Unit {0}

-- ---- one of two machines

-- what each knows of the words, and has left, and what an answer of each has over
abbrev pub or_alone : {S T : Type 0} → (S → (Spot → ℕ) → Type 0) → (T → (Spot → ℕ) → Type 0) → Or S T → (Spot → ℕ) → Type 0
or_alone f g (First m) = f m
or_alone f g (Second m) = g m

abbrev pub or_left : {S T : Type 0} → (S → ℕ) → (T → ℕ) → Or S T → ℕ
or_left f g (First m) = f m
or_left f g (Second m) = g m

abbrev pub or_saved : {A B : Type 0} → (A → ℕ) → (B → ℕ) → Or A B → ℕ
or_saved f g (First a) = f a
or_saved f g (Second b) = g b

-- ---- one word step

-- it has one word step left, and its answer has none over
abbrev pub word_left : Word → ℕ
word_left m = 1

abbrev pub word_saved : ℕ → ℕ
word_saved n = 0
