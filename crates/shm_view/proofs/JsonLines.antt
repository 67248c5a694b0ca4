-- a JSON value that was printed on a line is read back
use Rattle.std.proofs.Common.{◌≡◌, ℕ, ◌≤◌, Bool, true, false, cond, ◌&&◌, List, [], ◌∷◌, ◌++◌, Some, option_and_then, refl, sym, ap, ap₂, ◌∙◌, subst, append_assoc, append-nil}
use Rattle.json.specs.Token.{Token, begin_object, end_object, begin_array, end_array, key, string, number, boolean, null, bad}
use Rattle.json.specs.Word.{ends_word, word}
use Rattle.json.specs.Lex.{Lexeme, token, comma, colon, string_token, lex, between, fresh, punctuate, tokens}
use Rattle.json.specs.Json as json
use Rattle.json.specs.Json.{Json, if_last, max_depth, value, document}
use Rattle.json.specs.Print.{escape, quoted, token_text, begins, ends, print_from, print, IsPrintable, ArePrintable, ArePrintableOrBad}
use Rattle.json.specs.Tree.{json_tokens, items_tokens, members_tokens, depth, HasNumbers, ItemsHaveNumbers, MembersHaveNumbers}
use Rattle.json.proofs.Numbered.{ArePrintableOrBad-tokens}
use Rattle.json.proofs.Printed.{Strings.{content-escape, lex-escape}, Numbers.{lex-number, in_word-ended}, Tokens.tokens-print, Trees.{value-json_tokens, ArePrintable-json_tokens}}
use Rattle.shm_view.specs.FiguresJson.{json_line}

-- ---- a line's end behind printed tokens

-- the lexemes of a printed token
abbrev token_lexemes : Token → List Lexeme
token_lexemes begin_object = token begin_object ∷ []
token_lexemes end_object = token end_object ∷ []
token_lexemes begin_array = token begin_array ∷ []
token_lexemes end_array = token end_array ∷ []
token_lexemes (key s) = token (string s) ∷ colon ∷ []
token_lexemes (string s) = token (string s) ∷ []
token_lexemes (number s) = token (number s) ∷ []
token_lexemes (boolean b) = token (boolean b) ∷ []
token_lexemes null = token null ∷ []
token_lexemes bad = []

-- those of printed tokens, with a comma between a value and the next one
abbrev lexemes : Bool → List Token → List Lexeme
lexemes later [] = []
lexemes later (t ∷ ts) = cond (later && begins t) (comma ∷ []) [] ++ (token_lexemes t ++ lexemes (ends t) ts)

-- after a printed value stands a comma, a closing bracket or what comes behind all tokens
ended : (ts : List Token) (rest : List ℕ) → ends_word rest ≡ true → ends_word (print_from true ts ++ rest) ≡ true
unfolding print_from
ended [] rest h = h
ended (begin_object ∷ ts) rest h = refl
ended (end_object ∷ ts) rest h = refl
ended (begin_array ∷ ts) rest h = refl
ended (end_array ∷ ts) rest h = refl
ended (key s ∷ ts) rest h = refl
ended (string s ∷ ts) rest h = refl
ended (number s ∷ ts) rest h = refl
ended (boolean b ∷ ts) rest h = refl
ended (null ∷ ts) rest h = refl
ended (bad ∷ ts) rest h = refl

lex-quoted : (s rest : List ℕ) → lex between (quoted s ++ rest) ≡ token (string s) ∷ lex between rest
unfolding lex
lex-quoted s rest =
    ap (λ l. lex between (34 ∷ l)) (append_assoc (escape s) (34 ∷ []) rest) ∙ ap₂ (λ o l. token (string_token o) ∷ l) (content-escape s rest) (lex-escape s rest)

lex-token : (t : Token) (rest : List ℕ) → IsPrintable t → (ends t ≡ true → ends_word rest ≡ true) → lex between (token_text t ++ rest) ≡ token_lexemes t ++ lex between rest
unfolding lex word
lex-token begin_object rest h e = refl
lex-token end_object rest h e = refl
lex-token begin_array rest h e = refl
lex-token end_array rest h e = refl
lex-token (key s) rest h e = ap (lex between) (append_assoc (quoted s) (58 ∷ []) rest) ∙ lex-quoted s (58 ∷ rest)
lex-token (string s) rest h e = lex-quoted s rest
lex-token (number s) rest h e = lex-number s rest h (e refl)
lex-token (boolean true) rest h e = ap₂ (λ b l. token (cond b (boolean true) bad) ∷ l) (e refl) (in_word-ended rest (e refl))
lex-token (boolean false) rest h e = ap₂ (λ b l. token (cond b (boolean false) bad) ∷ l) (e refl) (in_word-ended rest (e refl))
lex-token null rest h e = ap₂ (λ b l. token (cond b null bad) ∷ l) (e refl) (in_word-ended rest (e refl))
lex-token bad rest h e = absurd h

lex-comma : (b : Bool) (rest : List ℕ) → lex between (cond b (44 ∷ []) [] ++ rest) ≡ cond b (comma ∷ []) [] ++ lex between rest
unfolding lex
lex-comma true rest = refl
lex-comma false rest = refl

regroup : {A : Type 0} (a b c d : List A) → (a ++ (b ++ c)) ++ d ≡ a ++ (b ++ (c ++ d))
regroup a b c d = simp append_assoc

-- printed tokens are lexed, and then what comes behind them
lex-printed : (later : Bool) (ts : List Token) (rest : List ℕ) → ends_word rest ≡ true → ArePrintable ts → lex between (print_from later ts ++ rest) ≡ lexemes later ts ++ lex between rest
unfolding print_from ArePrintable
lex-printed later [] rest e h = refl
lex-printed later (t ∷ ts) rest e h =
    let comma_before = cond (later && begins t) (44 ∷ []) [] in
    let more = print_from (ends t) ts in
    ap (lex between) (regroup comma_before (token_text t) more rest)
    ∙ lex-comma (later && begins t) (token_text t ++ (more ++ rest))
    ∙ ap (λ l. cond (later && begins t) (comma ∷ []) [] ++ l)
    (lex-token t (more ++ rest) h.0 (λ b. ap (λ last. ends_word (print_from last ts ++ rest)) b ∙ ended ts rest e)
    ∙ ap (λ l. token_lexemes t ++ l) (lex-printed (ends t) ts rest e h.1))
    ∙ sym (regroup (cond (later && begins t) (comma ∷ []) []) (token_lexemes t) (lexemes (ends t) ts) (lex between rest))

tokens-line : (ts : List Token) → ArePrintable ts → tokens (print ts ++ 10 ∷ []) ≡ ts
unfolding lex
tokens-line ts h =
    ap (punctuate fresh) (lex-printed false ts (10 ∷ []) refl h ∙ sym (lex-printed false ts [] refl h) ∙ ap (lex between) (append-nil (print ts))) ∙ tokens-print ts h

-- ---- numbers in tokens that were read

split : (ts us : List Token) → ArePrintableOrBad (ts ++ us) → ArePrintableOrBad ts × ArePrintableOrBad us
split [] us h = (tt, h)
split (t ∷ ts) us h = let p = split ts us h.1 in ((h.0, p.0), p.1)

mutual
  pub numbers_read : (j : Json) → ArePrintableOrBad (json_tokens j) → HasNumbers j
  numbers_read json.null h = tt
  numbers_read (json.boolean b) h = tt
  numbers_read (json.number s) h = h.0
  numbers_read (json.string s) h = tt
  numbers_read (json.array js) h = item_numbers_read js h.1
  numbers_read (json.object ms) h = member_numbers_read ms h.1

  item_numbers_read : (js : json.Items) → ArePrintableOrBad (items_tokens js) → ItemsHaveNumbers js
  item_numbers_read json.no_items h = tt
  item_numbers_read (json.item j js) h = let p = split (json_tokens j) (items_tokens js) h in (numbers_read j p.0, item_numbers_read js p.1)

  member_numbers_read : (ms : json.Members) → ArePrintableOrBad (members_tokens ms) → MembersHaveNumbers ms
  member_numbers_read json.no_members h = tt
  member_numbers_read (json.member k j ms) h = let p = split (json_tokens j) (members_tokens ms) h.1 in (numbers_read j p.0, member_numbers_read ms p.1)

-- ---- a value on a line

pub document-json_line : (j : Json) → HasNumbers j → depth j ≤ max_depth → document (json_line j) ≡ Some j
document-json_line j numbers shallow =
    ap (option_and_then (λ p. if_last p.0 p.1))
    (ap (value max_depth) (tokens-line (json_tokens j) (ArePrintable-json_tokens j numbers) ∙ sym (append-nil (json_tokens j)))
    ∙ value-json_tokens j max_depth [] shallow)

-- what was written of a value, and then a line's end
pub on_a_line : (j : Json) (before printed text : List ℕ) (ts : List Token) → before ≡ [] → ts ≡ json_tokens j → printed ≡ before ++ print ts → text ≡ printed ++ 10 ∷ [] → text ≡ json_line j
on_a_line j before printed text ts e0 e1 e2 e3 =
    e3 ∙ ap (λ l. l ++ 10 ∷ []) (e2 ∙ ap (λ l. l ++ print ts) e0 ∙ ap print e1)

-- it reads as the value
pub line_reads : (j : Json) (ts : List Token) → ts ≡ json_tokens j → tokens (print ts) ≡ ts → depth j ≤ max_depth → document (json_line j) ≡ Some j
line_reads j ts e same shallow =
    document-json_line j (numbers_read j (subst ArePrintableOrBad (same ∙ e) (ArePrintableOrBad-tokens (print ts)))) shallow
