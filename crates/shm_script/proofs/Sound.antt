-- What was read is a trace, and its text is what was read.
use Rattle.std.proofs.Common.{◌≡◌, ◌≢◌, ℕ, ◌^◌, ◌<◌, ◌≤◌, Bool, true, false, List, [], ◌∷◌, ◌++◌, length, map, sum, Option, refl, sym, ap, subst, ◌∙◌, arith}
use Rattle.std.proofs.lemmas.List.{append-nil}
use Rattle.std.specs.{Prelude.◌==◌, List.{AllByRecursion, flat_map, list_any}}
use Rattle.shm_script.specs.declared.{line.{Line.Line, Item.Item}, raw.RawCommand.RawCommand, fit.TracePlace.TracePlace}
use Rattle.shm_script.specs.{Values.Scripted, Ranges.{LineFits, ItemFits, IsLife, AreApart, segments_limit}}
use Rattle.shm_script.specs.Text.{spaced, ended, line_ended, order_spelled, pool_word, life_spelled, script_spelled, text_of}
use Rattle.shm_script.specs.Shapes.{Client, Command}
use Rattle.shm_script.specs.Faults.{FitPool, FitOrder, FitClient, FitLife, FitCommand, may_stand, is_second}
use Rattle.shm_script.specs.Drafts.{Drafted, draft_none, open_script, scripts_at, all_scripts, draft_after, traced}
use Rattle.shm_script.specs.declared.fit.TracePlace.TheVariants as place
use Rattle.shm_script.proofs.{LinesGiven.{order_some, life_some}, FitTexts.FitRange, LineTexts.fit_text}
use Rattle.shm_script.proofs.Lists.{all_push, all_last, apart_push, apart_last, clients_last, clients_push, not_taken, text_last, text_push, client_text, lines_push}

-- the text that was read
abbrev pub text_at : TracePlace → Drafted → List ℕ
text_at place.Start d = []
text_at _ d = text_of (traced d)

abbrev pub draft_text : Drafted → List ℕ
draft_text d = text_at d.seen.place d

-- a script in its ranges, with any number of commands
pub record LooseFits (clients : ℕ) (s : Scripted) : Type 0 where
  pub client : s.client < clients
  pub life : AllByRecursion IsLife s.life
  pub sum : sum s.life ≤ 2 ^ 40
  pub lines : AllByRecursion (LineFits clients s.client) s.lines

-- the size of a pool that was read
abbrev pub SizeAt : TracePlace → Bool → ℕ → ℕ → Type 0
SizeAt place.Start wide n g = Unit {0}
SizeAt _ wide n g = (1 ≤ n) × (n ≤ 16) × (1 ≤ g) × (g ≤ segments_limit wide)

-- what is empty still
abbrev pub EmptyAt : TracePlace → Drafted → Type 0
EmptyAt place.Start d = (d.order ≡ []) × (d.scripts ≡ [])
EmptyAt place.Pool d = (d.order ≡ []) × (d.scripts ≡ [])
EmptyAt place.Order d = d.scripts ≡ []
EmptyAt place.Client d = (d.life ≡ []) × (d.lines ≡ [])
EmptyAt place.Body d = Unit {0}

-- what was read is in its ranges
pub record IsDraft (d : Drafted) : Type 0 where
  pub size : SizeAt d.seen.place d.wide d.seen.clients d.segments
  pub few : length d.order ≤ 1000
  pub items : AllByRecursion (ItemFits d.seen.clients) d.order
  pub loose : AllByRecursion (LooseFits d.seen.clients) (all_scripts d)
  pub apart : AreApart (all_scripts d)
  pub taken : d.seen.taken ≡ map (λ (s : Scripted). s.client) (all_scripts d)
  pub empty : EmptyAt d.seen.place d

pub none_is_draft : IsDraft draft_none
none_is_draft = record { size = tt; few = omega arith; items = tt; loose = tt; apart = tt; taken = refl; empty = (refl, refl) }

-- one more line
abbrev pub Grows : Drafted → Drafted → List ℕ → Type 0
Grows d e text = IsDraft e × (draft_text e ≡ draft_text d ++ ended text)

-- the part of the text before the scripts
abbrev pub head_text : Bool → ℕ → ℕ → List Item → List ℕ
head_text wide n g order = ended (pool_word wide ++ spaced n ++ spaced g) ++ order_spelled order

pub pool_grows : (d : Drafted) (wide : Bool) (n g : ℕ) → IsDraft d → d.seen.place ≡ place.Start → FitRange d.seen.clients d.seen.me (FitPool wide n g) → Grows d (draft_after d (FitPool wide n g)) (fit_text (FitPool wide n g))
pool_grows d wide n g h start range =
    let empty = subst (λ p. EmptyAt p d) start h.empty in
    let whole = ended (fit_text (FitPool wide n g)) in
    let none : draft_text d ≡ [] = ap (λ p. text_at p d) start in
    let scripts : all_scripts d ≡ [] = ap (λ p. scripts_at p d) start ∙ empty.1 in
    let text : (whole ++ order_spelled d.order) ++ flat_map script_spelled d.scripts ≡ whole =
    ap (λ os. (whole ++ order_spelled os) ++ flat_map script_spelled d.scripts) empty.0 ∙ ap (λ ss. (whole ++ []) ++ flat_map script_spelled ss) empty.1 ∙ append-nil (whole ++ []) ∙ append-nil whole in (
      record {
        size = range;
        few = h.few;
        items = subst (λ os. AllByRecursion (ItemFits n) os) (sym empty.0) tt;
        loose = subst (λ ss. AllByRecursion (LooseFits n) ss) (sym empty.1) tt;
        apart = subst AreApart (sym empty.1) tt;
        taken = h.taken ∙ ap (map (λ (s : Scripted). s.client)) (scripts ∙ sym empty.1);
        empty = empty;
      },
      text ∙ ap (λ w. w ++ whole) (sym none),
    )

pub order_grows : (d : Drafted) (items : List Item) → IsDraft d → d.seen.place ≡ place.Pool → FitRange d.seen.clients d.seen.me (FitOrder items) → Grows d (draft_after d (FitOrder items)) (fit_text (FitOrder items))
order_grows d items h pool range =
    let empty = subst (λ p. EmptyAt p d) pool h.empty in
    let size = subst (λ p. SizeAt p d.wide d.seen.clients d.segments) pool h.size in
    let scripts : all_scripts d ≡ d.scripts = ap (λ p. scripts_at p d) pool in
    let front = ended (pool_word d.wide ++ spaced d.seen.clients ++ spaced d.segments) in
    let line = ended (fit_text (FitOrder items)) in
    let before : draft_text d ≡ front = ap (λ p. text_at p d) pool ∙ ap (λ ss. (front ++ order_spelled d.order) ++ flat_map script_spelled ss) (scripts ∙ empty.1) ∙ append-nil (front ++ order_spelled d.order) ∙ ap (λ os. front ++ order_spelled os) empty.0 ∙ append-nil front in
    let behind : (front ++ order_spelled items) ++ flat_map script_spelled d.scripts ≡ front ++ line =
    ap (λ ss. (front ++ order_spelled items) ++ flat_map script_spelled ss) empty.1 ∙ append-nil (front ++ order_spelled items) ∙ ap (λ w. front ++ w) (order_some items range.0) in (
      record {
        size = size;
        few = range.1;
        items = range.2;
        loose = subst (AllByRecursion (LooseFits d.seen.clients)) scripts h.loose;
        apart = subst AreApart scripts h.apart;
        taken = h.taken ∙ ap (map (λ (s : Scripted). s.client)) scripts;
        empty = empty.1;
      },
      behind ∙ ap (λ w. w ++ line) (sym before),
    )

-- a place behind which a client may stand
size_there : (p : TracePlace) (c : Option ℕ) (wide : Bool) (n g : ℕ) → may_stand p (Client c) ≡ true → SizeAt p wide n g → SizeAt place.Client wide n g
size_there place.Start c wide n g h size = absurd cc
size_there place.Pool c wide n g h size = size
size_there place.Order c wide n g h size = size
size_there place.Client c wide n g h size = size
size_there place.Body c wide n g h size = size

text_there : (p : TracePlace) (c : Option ℕ) (d : Drafted) → may_stand p (Client c) ≡ true → text_at p d ≡ text_of (traced d)
text_there place.Start c d h = absurd cc
text_there place.Pool c d h = refl
text_there place.Order c d h = refl
text_there place.Client c d h = refl
text_there place.Body c d h = refl

pub client_grows : (d : Drafted) (o : Option ℕ) (c : ℕ) → IsDraft d → may_stand d.seen.place (Client o) ≡ true → is_second d.seen.taken (FitClient c) ≡ false → FitRange d.seen.clients d.seen.me (FitClient c) → Grows d (draft_after d (FitClient c)) (fit_text (FitClient c))
client_grows d o c h stands first range =
    let ss = all_scripts d in
    let s : Scripted = record { client = c; life = []; lines = [] } in
    let apart : AllByRecursion (λ x. x.client ≢ c) ss = not_taken ss c (ap (λ cs. list_any (λ x. x == c) cs) (sym h.taken) ∙ first) in
    let spelled : script_spelled s ≡ client_text c = append-nil (client_text c ++ []) ∙ append-nil (client_text c) in
    let front = head_text d.wide d.seen.clients d.segments d.order in (
      record {
        size = size_there d.seen.place o d.wide d.seen.clients d.segments stands h.size;
        few = h.few;
        items = h.items;
        loose = all_push (LooseFits d.seen.clients) ss s h.loose (record { client = range; life = tt; sum = omega arith; lines = tt });
        apart = apart_push ss s h.apart apart;
        taken = ap (λ cs. cs ++ c ∷ []) h.taken ∙ sym (clients_push ss s);
        empty = (refl, refl);
      },
      text_push front ss s ∙ ap (λ w. (front ++ flat_map script_spelled ss) ++ w) spelled ∙ ap (λ w. w ++ client_text c) (sym (text_there d.seen.place o d stands)),
    )

-- the script that goes on gets more text
module _ (d : Drafted) (h : IsDraft d) (at : all_scripts d ≡ d.scripts ++ open_script d ∷ []) (t : Scripted) (client : d.seen.me ≡ t.client) (fits : LooseFits d.seen.clients (open_script d) → LooseFits d.seen.clients t) where
  loose_more : AllByRecursion (LooseFits d.seen.clients) (d.scripts ++ t ∷ [])
  loose_more = all_last (LooseFits d.seen.clients) d.scripts (open_script d) t (subst (AllByRecursion (LooseFits d.seen.clients)) at h.loose) fits

  apart_more : AreApart (d.scripts ++ t ∷ [])
  apart_more = apart_last d.scripts (open_script d) t client (subst AreApart at h.apart)

  taken_more : d.seen.taken ≡ map (λ (s : Scripted). s.client) (d.scripts ++ t ∷ [])
  taken_more = h.taken ∙ ap (map (λ (s : Scripted). s.client)) at ∙ clients_last d.scripts (open_script d) t client

  text_more : (more : List ℕ) → script_spelled t ≡ script_spelled (open_script d) ++ more → draft_text d ≡ text_of (traced d) → head_text d.wide d.seen.clients d.segments d.order ++ flat_map script_spelled (d.scripts ++ t ∷ []) ≡ draft_text d ++ more
  text_more more spelled there =
      let front = head_text d.wide d.seen.clients d.segments d.order in
      text_last front d.scripts (open_script d) t more spelled ∙ ap (λ w. w ++ more) (ap (λ ss. front ++ flat_map script_spelled ss) (sym at) ∙ sym there)

pub life_grows : (d : Drafted) (life : List ℕ) → IsDraft d → d.seen.place ≡ place.Client → FitRange d.seen.clients d.seen.me (FitLife life) → Grows d (draft_after d (FitLife life)) (fit_text (FitLife life))
life_grows d life h client range =
    let empty = subst (λ p. EmptyAt p d) client h.empty in
    let at : all_scripts d ≡ d.scripts ++ open_script d ∷ [] = ap (λ p. scripts_at p d) client in
    let t : Scripted = record { client = d.seen.me; life = life; lines = d.lines } in
    let fits : LooseFits d.seen.clients (open_script d) → LooseFits d.seen.clients t = λ l. record { client = l.client; life = range.1; sum = range.2; lines = l.lines } in
    let line = ended (fit_text (FitLife life)) in
    let me = client_text d.seen.me in
    let old : script_spelled (open_script d) ≡ me = ap (λ ls. (me ++ life_spelled d.life) ++ flat_map line_ended ls) empty.1 ∙ append-nil (me ++ life_spelled d.life) ∙ ap (λ l. me ++ life_spelled l) empty.0 ∙ append-nil me in
    let new : script_spelled t ≡ me ++ line = ap (λ ls. (me ++ life_spelled life) ++ flat_map line_ended ls) empty.1 ∙ append-nil (me ++ life_spelled life) ∙ ap (λ w. me ++ w) (life_some life range.0) in (
      record {
        size = subst (λ p. SizeAt p d.wide d.seen.clients d.segments) client h.size;
        few = h.few;
        items = h.items;
        loose = loose_more d h at t refl fits;
        apart = apart_more d h at t refl fits;
        taken = taken_more d h at t refl fits;
        empty = tt;
      },
      text_more d h at t refl fits line (new ∙ ap (λ w. w ++ line) (sym old)) (ap (λ p. text_at p d) client),
    )

-- a place behind which a command may stand
body_size : (p : TracePlace) (r : RawCommand) (wide : Bool) (n g : ℕ) → may_stand p (Command r) ≡ true → SizeAt p wide n g → SizeAt place.Body wide n g
body_size place.Start r wide n g h size = absurd cc
body_size place.Pool r wide n g h size = absurd cc
body_size place.Order r wide n g h size = absurd cc
body_size place.Client r wide n g h size = size
body_size place.Body r wide n g h size = size

body_there : (p : TracePlace) (r : RawCommand) (d : Drafted) → may_stand p (Command r) ≡ true → (text_at p d ≡ text_of (traced d)) × (scripts_at p d ≡ d.scripts ++ open_script d ∷ [])
body_there place.Start r d h = absurd cc
body_there place.Pool r d h = absurd cc
body_there place.Order r d h = absurd cc
body_there place.Client r d h = (refl, refl)
body_there place.Body r d h = (refl, refl)

pub command_grows : (d : Drafted) (r : RawCommand) (line : Line) → IsDraft d → may_stand d.seen.place (Command r) ≡ true → FitRange d.seen.clients d.seen.me (FitCommand line) → Grows d (draft_after d (FitCommand line)) (fit_text (FitCommand line))
command_grows d r line h stands range =
    let there = body_there d.seen.place r d stands in
    let t : Scripted = record { client = d.seen.me; life = d.life; lines = d.lines ++ line ∷ [] } in
    let fits : LooseFits d.seen.clients (open_script d) → LooseFits d.seen.clients t = λ l. record { client = l.client; life = l.life; sum = l.sum; lines = all_push (LineFits d.seen.clients d.seen.me) d.lines line l.lines range } in (
      record {
        size = body_size d.seen.place r d.wide d.seen.clients d.segments stands h.size;
        few = h.few;
        items = h.items;
        loose = loose_more d h there.1 t refl fits;
        apart = apart_more d h there.1 t refl fits;
        taken = taken_more d h there.1 t refl fits;
        empty = tt;
      },
      text_more d h there.1 t refl fits (line_ended line) (lines_push d.seen.me d.life d.lines line) there.0,
    )
