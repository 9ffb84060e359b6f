-- What was read gives the bytes that are written, or a refusal.

use Rattle.std.proofs.Common.{◌≡◌, ℕ, ◌≤◌, ◌<◌, ◌⊎◌, Bool, true, false, ◌||◌, Option, Some, None, is_some, Result, Ok, Err, IfOk, List, [], ◌∷◌, ◌++◌, length, Vec, refl, sym, ◌∙◌, ap, subst, inl, inr}
use Rattle.std.specs.declared.alloc.Global.{Global}
use Rattle.std.specs.Prelude.{⊤}
use Rattle.std.proofs.lemmas.List.{append-nil}
use Rattle.std.proofs.Math.Bool.{or-false}
use Rattle.tool_io.specs.declared.host.Place as place
use Rattle.tool_io.specs.declared.host.Place.TheVariants as at
use Rattle.tool_io.specs.Log.{Event, Attached, Missed, same_place, taken, ended_from, names_of, IsFront}
use Rattle.tool_io.specs.Whole.{Draws}
use Rattle.tool_io.specs.Cutting.{lines_of}
use Rattle.tool_io.proofs.LogLaws.{taken-append, ended_from-append, names_of-append}
use Rattle.tool_words.specs.declared.file_kind.FileKind.{FileKind}
use Rattle.tool_words.specs.declared.file_kind.FileKind.TheVariants.{Spec, Program}
use Rattle.c2po_compile.specs.Front.{first_refusal}
use Rattle.tool_words.specs.declared.status.Status as status
use Rattle.tool_words.specs.declared.status.Status.TheVariants as answers
use Rattle.tool_words.specs.Attaching.{is_attached, OpensAsTold}
use Rattle.tool_words.specs.Files.{file_place, file_limit}
use Rattle.tool_words.specs.FileReading.{FileLog}
use Rattle.tool_words.specs.Telling.{is_used}
use Rattle.tool_words.proofs.AttachLaws.{is_attached-append, ReadsAttached-append}
use Rattle.tool_words.proofs.FileLaws.{elsewhere, Visits, visit_missed, visit_none, visit_read}
use Rattle.tool_words.proofs.UseLaws.{unused, unused-append}
use Rattle.c2po_cli.specs.declared.make.Form.{Form}
use Rattle.c2po_cli.specs.declared.make.Product.{Product}
use Rattle.c2po_cli.specs.declared.make.Product.TheVariants.{Compiled, Upgrade, Show}
use Rattle.c2po_cli.specs.Asking.{MakeAsked, file_kind, place_named, read_names}
use Rattle.c2po_cli.specs.Images.{WritesImage, GivesFile}
use Rattle.c2po_cli.specs.Made.{first_line, made, made_of_text}
use Rattle.c2po_cli.specs.Run.{Seen, seen, input_place, is_tried, HasFaultlessText, IsHeaded, MakesFile, MakeOutcome}
use Rattle.c2po_cli.specs.Phases.{IsRefusal, RefusesAlone, HeaderLog, RefusedLog, MadeLog, FileMadeLog, AfterLog, Gathered, NotGathered, GatherLog}
use Rattle.c2po_cli.proofs.LogLaws.{is_tried-append, untried}

-- what two logs say alike
abbrev pub seen_as : List (place.Place × List ℕ) → List ℕ → Bool → List (List ℕ) → Bool → List ℕ → Bool → Seen
seen_as names file whole header header_ended out attached = record { names = names; file = file; whole = whole; header = header; header_ended = header_ended; out = out; attached = attached }

pub same_seen : {n m : List (place.Place × List ℕ)} {f g : List ℕ} {w v : Bool} {h i : List (List ℕ)} {e d : Bool} {o p : List ℕ} {t u : Bool} → n ≡ m → f ≡ g → w ≡ v → h ≡ i → e ≡ d → o ≡ p → t ≡ u → seen_as n f w h e o t ≡ seen_as m g v i d p u
same_seen names file whole header header_ended out attached = cc

-- the file was visited, and then the header
abbrev pub seen_so : List (place.Place × List ℕ) → List ℕ → Bool → List ℕ → Bool → Seen
seen_so names bytes ended head over = seen_as names bytes ended (lines_of over head) over [] false

module _ (asked : MakeAsked) (tried more : List (place.Place × List ℕ)) (bytes head : List ℕ) (ended over opened headed : Bool) (first second : List Event) (file : Visits (input_place asked) tried bytes ended opened first) (header : Visits at.Header more head over headed second) where
  abbrev p : place.Place
  p = input_place asked

  abbrev all : List Event
  all = first ++ second

  abbrev so : Seen
  so = seen_so (tried ++ more) bytes ended head over

  all_unused : (q : place.Place) → same_place q p ≡ false → same_place q at.Header ≡ false → is_used q all ≡ false
  all_unused q not_file not_header = unused-append q first second (file.only q not_file) (header.only q not_header)

  file_unused : is_used p second ≡ false
  file_unused = header.only p (elsewhere (file_kind asked.product)).not_header

  header_unused : is_used at.Header first ≡ false
  header_unused = file.only at.Header (elsewhere (file_kind asked.product)).header

  out_unused : is_used at.Out all ≡ false
  out_unused = all_unused at.Out (elsewhere (file_kind asked.product)).out refl

  all_names : names_of all ≡ tried ++ more
  all_names = names_of-append first second ∙ ap (λ ns. ns ++ names_of second) file.names_are ∙ ap (λ ns. tried ++ ns) header.names_are

  all_over : ended_from false at.Header all ≡ over
  all_over = ended_from-append false at.Header first second ∙ ap (λ v. ended_from v at.Header second) ((unused at.Header first header_unused).ends false) ∙ header.end

  all_head : taken at.Header all ≡ head
  all_head = taken-append at.Header first second ∙ ap (λ b. b ++ taken at.Header second) (unused at.Header first header_unused).bytes ∙ header.takes

  seen_both : seen asked all ≡ so
  seen_both = same_seen
      all_names
      (taken-append p first second ∙ ap (λ b. b ++ taken p second) file.takes ∙ ap (λ b. bytes ++ b) (unused p second file_unused).bytes ∙ append-nil bytes)
      (ended_from-append false p first second ∙ (unused p second file_unused).ends (ended_from false p first) ∙ file.end)
      (ap (λ v. lines_of v (taken at.Header all)) all_over ∙ ap (lines_of over) all_head)
      all_over
      (unused at.Out all out_unused).out
      (unused at.Out all out_unused).attached

  -- the header was tried only where names say so
  tries_both : (is_tried at.Header more ≡ true → HasFaultlessText asked so) → is_tried at.Header (names_of all) ≡ true → HasFaultlessText asked (seen asked all)
  tries_both faultless is =
      subst (HasFaultlessText asked) (sym seen_both)
      (faultless (ap (is_tried at.Header) (sym header.names_are) ∙ sym (ap (λ v. v || is_tried at.Header (names_of second)) (untried at.Header first header_unused))
      ∙ sym (is_tried-append at.Header (names_of first) (names_of second)) ∙ ap (is_tried at.Header) (sym (names_of-append first second)) ∙ is))

  pub file_opened : is_attached p all ≡ opened
  file_opened = is_attached-append p first second ∙ ap (λ v. is_attached p first || v) (unused p second file_unused).attached ∙ or-false (is_attached p first) ∙ file.attached

  pub header_opened : is_attached at.Header all ≡ headed
  header_opened = is_attached-append at.Header first second ∙ ap (λ v. v || is_attached at.Header second) (unused at.Header first header_unused).attached ∙ header.attached

  pub gather_ok : (made_bytes : List ℕ) → tried ++ more ≡ read_names asked → MakesFile asked so (Ok made_bytes) → (is_tried at.Header more ≡ true → HasFaultlessText asked so) → Gathered asked made_bytes all
  gather_ok made_bytes complete makes faultless = record {
    names = all_names ∙ complete;
    reads = ReadsAttached-append first second file.reads header.reads;
    unwritten = out_unused;
    quiet = all_unused at.Err (elsewhere (file_kind asked.product)).err refl;
    makes = subst (λ run. MakesFile asked run (Ok made_bytes)) (sym seen_both) makes;
    tries = tries_both faultless;
  }

  pub gather_not : (answer : status.Status) → IsFront (tried ++ more) (read_names asked) → MakeOutcome answer asked so → (is_tried at.Header more ≡ true → HasFaultlessText asked so) → OpensAsTold answer all → NotGathered asked answer all
  gather_not answer front outcome faultless opens = record {
    names = record { rest = front.rest; split = front.split ∙ ap (λ ns. ns ++ front.rest) (sym all_names) };
    reads = ReadsAttached-append first second file.reads header.reads;
    unwritten = out_unused;
    quiet = all_unused at.Err (elsewhere (file_kind asked.product)).err refl;
    outcome = subst (MakeOutcome answer asked) (sym seen_both) outcome;
    tries = tries_both faultless;
    opened = opens;
  }

-- a status that refuses tells of no call
refuses_opened : (answer : status.Status) (events : List Event) → IsRefusal answer → OpensAsTold answer events
refuses_opened (answers.OpenFault p) events speaks = absurd speaks
refuses_opened (answers.ReadFault p) events speaks = absurd speaks
refuses_opened answer events speaks = tt

alone_refuses : (answer : status.Status) → RefusesAlone answer → IsRefusal answer
alone_refuses (answers.BadHeader why) speaks = absurd speaks
alone_refuses answer speaks = speaks

refusal_outcome : (answer : status.Status) (asked : MakeAsked) (run : Seen) → RefusesAlone answer → run.out ≡ [] → is_tried at.Out run.names ≡ false → MakesFile asked run (Err answer) → MakeOutcome answer asked run
refusal_outcome (answers.Refused line why) asked run speaks none untried makes = record { refused = makes; none_out = none }
refusal_outcome (answers.BadProgram fault) asked run speaks none untried makes = record { refused = makes; none_out = none }
refusal_outcome (answers.TextTooLong at.Out) asked run speaks none untried makes = record { refused = makes; none_out = none }
refusal_outcome answers.Memory asked run speaks none untried makes = (makes.whole.within, none, untried)
refusal_outcome answer asked run speaks none untried makes = absurd speaks

-- a header too, where it was begun
headed_outcome : (answer : status.Status) (asked : MakeAsked) (run : Seen) → IsRefusal answer → IsHeaded run → run.out ≡ [] → is_tried at.Out run.names ≡ false → MakesFile asked run (Err answer) → MakeOutcome answer asked run
headed_outcome (answers.BadHeader why) asked run speaks begun none untried makes = (record { refused = makes; none_out = none }, begun)
headed_outcome answer asked run speaks begun none untried makes = refusal_outcome answer asked run speaks none untried makes

-- the file was read whole, within its limit
module _ (asked : MakeAsked) (bytes : List ℕ) (first second : List Event) (file : Visits (input_place asked) ((input_place asked, asked.file) ∷ []) bytes true true first) (within : length bytes ≤ file_limit (file_kind asked.product)) where
  abbrev headed : List (place.Place × List ℕ) → List ℕ → Bool → Seen
  headed more head over = seen_so ((input_place asked, asked.file) ∷ more) bytes true head over

  makes : (more : List (place.Place × List ℕ)) (head : List ℕ) (over : Bool) (found : Result (List ℕ) status.Status) → made asked bytes (lines_of over head) ≡ found → IfOk found (GivesFile asked.product asked.header bytes (lines_of over head)) → MakesFile asked (headed more head over) found
  makes more head over found is gives = record { whole = record { ended = refl; within = within }; is = is; gives = gives }

  -- the output is none of the places that are read
  out_untried : (same_place at.Out (input_place asked) || false) ≡ false
  out_untried = ap (λ v. v || false) (elsewhere (file_kind asked.product)).out

  no_front : IsFront {X = place.Place × List ℕ} ((input_place asked, asked.file) ∷ []) (read_names asked)
  no_front = record { rest = place_named at.Header asked.header; split = refl }

  -- nothing comes after it: it is refused
  refused_alone : (answer : status.Status) → RefusedLog (Err answer) (made asked bytes []) second → NotGathered asked answer (first ++ second)
  refused_alone answers.Memory is =
      gather_not asked _ _ _ _ _ _ _ _ first second file (visit_none at.Header second is) answers.Memory no_front (within, refl, out_untried) (λ tried. absurd (cc)) tt
  refused_alone answer is =
      gather_not asked _ _ _ _ _ _ _ _ first second file (visit_none at.Header second is.0) answer no_front
      (refusal_outcome answer asked (headed [] [] false) is.1 refl out_untried (makes [] [] false (Err answer) is.2 tt))
      (λ tried. absurd (cc)) (refuses_opened answer (first ++ second) (alone_refuses answer is.1))

  -- or its bytes are made of it
  made_alone : (result : Result (Vec ℕ Global) status.Status) → place_named at.Header asked.header ≡ [] → MadeLog result (made asked bytes []) second → IfOk result (λ made_bytes. GivesFile asked.product asked.header bytes [] made_bytes.items)
      → GatherLog result asked (first ++ second)
  made_alone (Ok bytes_made) none is image =
      gather_ok asked _ _ _ _ _ _ _ _ first second file (visit_none at.Header second is.0) bytes_made.items (ap (λ ns. (input_place asked, asked.file) ∷ ns) (sym none))
      (makes [] [] false (Ok bytes_made.items) is.1 image) (λ tried. absurd (cc))
  made_alone (Err answer) none is image = refused_alone answer is

  -- a header file comes after it, which a specification without a fault names
  module _ (form : Form) (name : List ℕ) (named : asked.header ≡ Some name) (is_made : (lines : List (List ℕ)) → made asked bytes lines ≡ made_of_text form (Some name) bytes lines) (none : first_refusal bytes ≡ None)
      (images : (lines : List (List ℕ)) (made_bytes : List ℕ) → WritesImage form bytes (Some (first_line lines)) made_bytes → GivesFile asked.product asked.header bytes lines made_bytes) where
    faultless : (more : List (place.Place × List ℕ)) (head : List ℕ) (over : Bool) → HasFaultlessText asked (headed more head over)
    faultless more head over = record { whole = record { ended = refl; within = within }; faultless = none }

    all_named : (input_place asked, asked.file) ∷ (at.Header, name) ∷ [] ≡ read_names asked
    all_named = ap (λ header. (input_place asked, asked.file) ∷ place_named at.Header header) (sym named)

    whole_front : IsFront {X = place.Place × List ℕ} ((input_place asked, asked.file) ∷ (at.Header, name) ∷ []) (read_names asked)
    whole_front = record { rest = []; split = sym all_named }

    unheaded : (more : List (place.Place × List ℕ)) (head : List ℕ) (over : Bool) → MakeOutcome (answers.OpenFault at.Header) asked (headed more head over)
    unheaded more head over = record { named = ap is_some named; spec = faultless more head over; none_out = refl }

    -- it was read so far, and nothing was made of it
    read_not : (answer : status.Status) (log : List Event) (head : List ℕ) (over : Bool) → second ≡ Attached at.Header name ∷ log → Draws at.Header head over log → MakeOutcome answer asked (headed ((at.Header, name) ∷ []) head over)
        → (is_attached at.Header (first ++ second) ≡ true → OpensAsTold answer (first ++ second)) → NotGathered asked answer (first ++ second)
    read_not answer log head over is takes outcome opens =
        let read = visit_read at.Header name head over log second is takes in
        gather_not asked _ _ _ _ _ _ _ _ first second file read answer whole_front outcome (λ tried. faultless ((at.Header, name) ∷ []) head over) (opens (header_opened asked _ _ _ _ _ _ _ _ first second file read))

    header_made : (result : Result (Vec ℕ Global) status.Status) → HeaderLog result form name bytes second → GatherLog result asked (first ++ second)
    header_made (Ok made_bytes) is =
        let line = is.2 in
        let lines = lines_of line.ended line.bytes in
        gather_ok asked _ _ _ _ _ _ _ _ first second file (visit_read at.Header name line.bytes line.ended is.0 second is.1 line.takes) made_bytes.items all_named
        (makes ((at.Header, name) ∷ []) line.bytes line.ended (Ok made_bytes.items) (is_made lines ∙ line.makes name) (images lines made_bytes.items line.image)) (λ tried. faultless ((at.Header, name) ∷ []) line.bytes line.ended)
    header_made (Err (answers.OpenFault at.Header)) (inl is) =
        let missed = visit_missed at.Header name second is in
        gather_not asked _ _ _ _ _ _ _ _ first second file missed (answers.OpenFault at.Header) whole_front (unheaded ((at.Header, name) ∷ []) [] false) (λ tried. faultless ((at.Header, name) ∷ []) [] false)
        (header_opened asked _ _ _ _ _ _ _ _ first second file missed)
    header_made (Err (answers.OpenFault at.Header)) (inr is) =
        let untold = visit_none at.Header second is in
        gather_not asked _ _ _ _ _ _ _ _ first second file untold (answers.OpenFault at.Header) no_front (unheaded [] [] false) (λ tried. absurd (cc)) (header_opened asked _ _ _ _ _ _ _ _ first second file untold)
    header_made (Err (answers.ReadFault at.Header)) is =
        let line = is.2 in
        read_not (answers.ReadFault at.Header) is.0 line.bytes false is.1 line.takes (record { unheaded = unheaded ((at.Header, name) ∷ []) line.bytes false; not_ended = refl; no_line = line.no_line }) (λ opened. opened)
    header_made (Err answers.Memory) is = read_not answers.Memory is.0 is.2.bytes is.2.ended is.1 is.2.takes (within, refl, out_untried) (λ opened. tt)
    header_made (Err (answers.TextTooLong at.Header)) is =
        let line = is.2 in
        read_not (answers.TextTooLong at.Header) is.0 line.bytes line.ended is.1 line.takes
        (record { refused = makes ((at.Header, name) ∷ []) line.bytes line.ended (Err (answers.TextTooLong at.Header)) (is_made (lines_of line.ended line.bytes) ∙ line.makes name) tt; none_out = refl }) (λ opened. tt)
    header_made (Err answer) is =
        let line = is.2.1 in
        read_not answer is.0 line.bytes line.ended is.1 line.takes
        (headed_outcome answer asked (headed ((at.Header, name) ∷ []) line.bytes line.ended) is.2.0 (record { tried = ap (λ v. v || true) (elsewhere (file_kind asked.product)).header; begun = line.begun }) refl out_untried
        (makes ((at.Header, name) ∷ []) line.bytes line.ended (Err answer) (is_made (lines_of line.ended line.bytes) ∙ line.makes name) tt))
        (λ opened. refuses_opened answer (first ++ second) is.2.0)

-- of a text nothing is said
nothing_said : (result : Result (Vec ℕ Global) status.Status) → IfOk result (λ made_bytes. ⊤)
nothing_said (Ok made_bytes) = tt
nothing_said (Err answer) = tt

-- by what is made
file_made : (product : Product) (name : List ℕ) (header out : Option (List ℕ)) (bytes : List ℕ) (result : Result (Vec ℕ Global) status.Status) (first second : List Event) → (file_kind product ≡ Program → header ≡ None)
    → Visits (file_place (file_kind product)) ((file_place (file_kind product), name) ∷ []) bytes true true first → length bytes ≤ file_limit (file_kind product) → FileMadeLog product result header bytes second
    → GatherLog result (record { product = product; file = name; header = header; out = out }) (first ++ second)
unfolding made
file_made (Compiled form) name header out bytes (Ok made_bytes) first second no_header read within (inl is) = absurd is
file_made (Compiled form) name header out bytes (Err answer) first second no_header read within (inl is) =
    refused_alone (record { product = Compiled form; file = name; header = header; out = out }) bytes first second read within answer is
file_made (Compiled form) name None out bytes result first second no_header read within (inr is) =
    made_alone (record { product = Compiled form; file = name; header = None; out = out }) bytes first second read within result refl is.1.0 is.1.1
file_made (Compiled form) name (Some head) out bytes result first second no_header read within (inr is) =
    header_made (record { product = Compiled form; file = name; header = Some head; out = out }) bytes first second read within form head refl (λ lines. refl) is.0 (λ lines made_bytes image. image) result is.1
file_made Upgrade name header out bytes result first second no_header read within is =
    made_alone (record { product = Upgrade; file = name; header = header; out = out }) bytes first second read within result (ap (place_named at.Header) (no_header refl)) is.0 is.1
file_made Show name header out bytes result first second no_header read within is =
    made_alone (record { product = Show; file = name; header = header; out = out }) bytes first second read within result (ap (place_named at.Header) (no_header refl)) is (nothing_said result)

pub gather_after : (asked : MakeAsked) (bytes : Vec ℕ Global) (result : Result (Vec ℕ Global) status.Status) (first second : List Event) → (file_kind asked.product ≡ Program → asked.header ≡ None)
    → FileLog (Ok bytes) (input_place asked) (file_limit (file_kind asked.product)) asked.file first → AfterLog result asked bytes.items second → GatherLog result asked (first ++ second)
gather_after asked bytes result first second no_header read is =
    file_made asked.product asked.file asked.header asked.out bytes.items result first second no_header (visit_read (input_place asked) asked.file bytes.items true read.0 first read.1 read.2) read.3 is

-- the file wasn't read whole: how the results at its place follow
module _ (asked : MakeAsked) (events : List Event) where
  abbrev q : place.Place
  q = input_place asked

  abbrev run_of : List (place.Place × List ℕ) → List ℕ → Seen
  run_of tried bytes = seen_so tried bytes false [] false

  pub record AtFile (p : place.Place) : Type 0 where
    pub shut : (tried : List (place.Place × List ℕ)) → MakeOutcome (answers.OpenFault p) asked (run_of tried [])
    pub read : (tried : List (place.Place × List ℕ)) (bytes : List ℕ) → length bytes ≤ file_limit (file_kind asked.product) → MakeOutcome (answers.ReadFault p) asked (run_of tried bytes)
    pub long : (tried : List (place.Place × List ℕ)) (bytes : List ℕ) → file_limit (file_kind asked.product) < length bytes → MakeOutcome (answers.TextTooLong p) asked (run_of tried bytes)

  at_file : (kind : FileKind) → file_kind asked.product ≡ kind → AtFile (file_place kind)
  at_file Spec is = let same = ap file_place (sym is) in record { shut = λ tried. (same, refl, refl); read = λ tried bytes within. (same, refl, within, refl); long = λ tried bytes long. (same, long, refl) }
  at_file Program is = let same = ap file_place (sym is) in record { shut = λ tried. (same, refl, refl); read = λ tried bytes within. (same, refl, within, refl); long = λ tried bytes long. (same, long, refl) }

  not_read : (answer : status.Status) (tried : List (place.Place × List ℕ)) (bytes : List ℕ) (ended opened : Bool) → Visits q tried bytes ended opened events → IsFront (tried ++ []) (read_names asked) → MakeOutcome answer asked (seen_so (tried ++ []) bytes ended [] false)
      → (is_attached q events ≡ opened → OpensAsTold answer events) → NotGathered asked answer events
  not_read answer tried bytes ended opened visit front outcome opens =
      subst (NotGathered asked answer) (append-nil events)
      (gather_not asked tried [] bytes [] ended false opened false events [] visit (visit_none at.Header [] refl) answer front outcome (λ tried. absurd (cc)) (subst (OpensAsTold answer) (sym (append-nil events)) (opens visit.attached)))

  one : IsFront {X = place.Place × List ℕ} ((q, asked.file) ∷ []) (read_names asked)
  one = record { rest = place_named at.Header asked.header; split = refl }

  missed : (events ≡ Missed q asked.file ∷ []) ⊎ (events ≡ []) → NotGathered asked (answers.OpenFault q) events
  missed (inl is) = not_read (answers.OpenFault q) _ _ _ _ (visit_missed q asked.file events is) one ((at_file (file_kind asked.product) refl).shut ((q, asked.file) ∷ [])) (λ un. un)
  missed (inr is) = not_read (answers.OpenFault q) _ _ _ _ (visit_none q events is) (record { rest = read_names asked; split = refl }) ((at_file (file_kind asked.product) refl).shut []) (λ un. un)

  pub gather_unread : (answer : status.Status) → FileLog (Err answer) q (file_limit (file_kind asked.product)) asked.file events → NotGathered asked answer events
  gather_unread (answers.OpenFault p) is = subst (λ r. NotGathered asked (answers.OpenFault r) events) (sym is.0) (missed is.1)
  gather_unread (answers.ReadFault p) is =
      subst (λ r. NotGathered asked (answers.ReadFault r) events) (sym is.0)
      (not_read (answers.ReadFault q) _ _ _ _ (visit_read q asked.file is.2 false is.1 events is.3 is.4) one ((at_file (file_kind asked.product) refl).read ((q, asked.file) ∷ []) is.2 is.5) (λ opened. opened))
  gather_unread (answers.TextTooLong p) is =
      subst (λ r. NotGathered asked (answers.TextTooLong r) events) (sym is.0)
      (not_read (answers.TextTooLong q) _ _ _ _ (visit_read q asked.file is.2 false is.1 events is.3 is.4) one ((at_file (file_kind asked.product) refl).long ((q, asked.file) ∷ []) is.2 is.5) (λ opened. tt))
  gather_unread answers.Memory is =
      not_read answers.Memory _ _ _ _ (visit_read q asked.file is.1 false is.0 events is.2 is.3) one (is.4, refl, ap (λ v. v || false) (elsewhere (file_kind asked.product)).out) (λ opened. tt)
  gather_unread answer is = absurd is
