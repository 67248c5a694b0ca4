-- Commands that are read in one pass.
use Rattle.std.proofs.Common.{◌≡◌, ℕ, ◌+◌, ◌*◌, ◌%◌, ◌^◌, ◌<◌, true, List, [], ◌∷◌, ◌++◌, refl, sym, ap, ◌∙◌, arith, append_assoc}
use Rattle.std.proofs.{Math.Arith.{digits_div, digits_mod}, lemmas.Fmt.{decimal_digit, decimal_step}}
use Rattle.std.specs.{Prelude.◌==◌, Fmt.decimal, List.slice_split}
use Rattle.shm_script.specs.{declared.{line.Line.Line, fit.TracePlace.TracePlace}, Ranges.IsNext}
use Rattle.shm_script.specs.{Faults.{FitCommand, may_stand, takes_commands}, Drafts.{Drafted, draft_after, reading}}
use Rattle.shm_script.specs.declared.fit.TracePlace.TheVariants as place
use Rattle.shm_script.proofs.{LinesAgain.fit_raw, Complete.line_goes}

-- one more digit
one_more : (n d : ℕ) → 0 < n → d < 10 → n * 10 + d < 2 ^ 64 → decimal (n * 10 + d) ≡ decimal n ++ ((48 + d) ∷ [])
one_more n d some below small =
    let step = decimal_step (n * 10 + d) (omega arith) small in
    step ∙ ap (λ q. decimal q ++ ((48 + (n * 10 + d) % 10) ∷ [])) (digits_div n below) ∙ ap (λ r. decimal n ++ ((48 + r) ∷ [])) (digits_mod n below)

pub first_digit : (text rest : List ℕ) (d : ℕ) → text ≡ (48 + d) ∷ rest → d < 10 → text ≡ decimal d ++ rest
first_digit text rest d is below = is ∙ ap (λ w. w ++ rest) (sym (decimal_digit d below))

pub next_digit : (text before rest : List ℕ) (n d m : ℕ) → text ≡ decimal n ++ before → before ≡ (48 + d) ∷ rest → 0 < n → d < 10 → m ≡ n * 10 + d → m < 2 ^ 64 → text ≡ decimal m ++ rest
next_digit text before rest n d m is goes some below more small =
    let by_more : decimal m ≡ decimal n ++ ((48 + d) ∷ []) = ap decimal more ∙ one_more n d some below (omega arith) in
    is ∙ ap (λ w. decimal n ++ w) goes ∙ sym (append_assoc (decimal n) ((48 + d) ∷ []) rest) ∙ ap (λ w. w ++ rest) (sym by_more)

stands : (p : TracePlace) (line : Line) → takes_commands p ≡ true → may_stand p (fit_raw (FitCommand line)) ≡ true
stands place.Start line h = h
stands place.Pool line h = h
stands place.Order line h = h
stands place.Client line h = h
stands place.Body line h = h

-- the text of the next command is read as that command
command_goes : (d : Drafted) (at : ℕ) (text rest : List ℕ) (line : Line) → d.seen.clients < 256 → takes_commands d.seen.place ≡ true → IsNext d.seen.clients d.seen.me text line rest
    → reading d at (slice_split (λ b. b == 10) text) ≡ reading (draft_after d (FitCommand line)) (at + 1) (slice_split (λ b. b == 10) rest)
command_goes d at text rest line few on is =
    ap (λ t. reading d at (slice_split (λ b. b == 10) t)) is.0 ∙ line_goes d at (FitCommand line) rest few is.1 (stands d.seen.place line on) refl

-- the same of what was read, which is `d`, and what is read behind it
pub command_taken : (d e behind : Drafted) (at : ℕ) (text rest : List ℕ) (line : Line) → d ≡ e → d.seen.clients < 256 → takes_commands d.seen.place ≡ true → IsNext d.seen.clients d.seen.me text line rest → behind ≡ draft_after e (FitCommand line)
    → reading e at (slice_split (λ b. b == 10) text) ≡ reading behind (at + 1) (slice_split (λ b. b == 10) rest)
command_taken d e behind at text rest line is few on next after =
    ap (λ x. reading x at (slice_split (λ b. b == 10) text)) (sym is)
    ∙ command_goes d at text rest line few on next
    ∙ ap (λ x. reading (draft_after x (FitCommand line)) (at + 1) (slice_split (λ b. b == 10) rest)) is
    ∙ ap (λ x. reading x (at + 1) (slice_split (λ b. b == 10) rest)) (sym after)
