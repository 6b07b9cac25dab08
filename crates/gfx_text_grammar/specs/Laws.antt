-- Laws of the texts, which functions with empty bodies promise.
use Rattle.std.specs.Prelude.{◌≡◌, ℕ, List, ◌∷◌, ◌++◌, Some, ◌<◌, ◌≤◌, ◌^◌, decimal}
use Rattle.gfx_model.specs.Events.{Event}
use Rattle.gfx_feature_model.specs.Listing.{IsListing}
use Rattle.gfx_grammar.specs.Reads.{AreBytes}
use Rattle.gfx_grammar.specs.Framing.{Part}
use Rattle.gfx_text_grammar.specs.Reading.{Style}
use Rattle.gfx_text_grammar.specs.Reads.{IsStyle}
use Rattle.gfx_text_grammar.specs.FieldReading.{Left, ShowsFields}
use Rattle.gfx_text_grammar.specs.Rows.{read_event}
use Rattle.gfx_text_grammar.specs.Styles.{numbered, named}
use Rattle.gfx_text_grammar.specs.StatementReading.{read_statement}
use Rattle.gfx_script_model.specs.Statements.{IsStatement, Form, IsForm}
use Rattle.gfx_text_grammar.specs.Parsing.{form_of, line_outcome, parse_of}
use Rattle.gfx_script_model.specs.Scripts.{Reading, Outcome, IsOutcome, Parsed, Parses}
use Rattle.gfx_text_grammar.specs.Lines.{read_line, HasLine}
use Rattle.gfx_text_grammar.specs.Listings.{Listed, file_of, read_header, read_lines, read_listing, HasHeaderLine, listed_of}
use Rattle.gfx_text_grammar.specs.Words.{number_in}

-- A word is read as a number below a limit exactly where it is the number in decimal.
abbrev pub NumbersAreRead : Type 0
NumbersAreRead = (limit : ℕ) (word : List ℕ) (n : ℕ) → limit ≤ 2 ^ 64
    → (number_in limit word ≡ Some n → (word ≡ decimal n) × (n < limit))
    × (n < limit → word ≡ decimal n → number_in limit word ≡ Some n)

-- In each style: the fields of an event are read exactly where they show so.
abbrev pub FieldsAreRead : Type 0
FieldsAreRead = (s : Style) → IsStyle s → (m kind : ℕ) (name : List ℕ) (left : Left) (e : Event)
    → (read_event s m kind name left ≡ Some e → ShowsFields s m kind name left e)
    × (ShowsFields s m kind name left e → read_event s m kind name left ≡ Some e)

-- A block is read of a line exactly where it has this line.
abbrev pub LinesAreRead : Type 0
LinesAreRead = (m : ℕ) (line : List ℕ) (p : Part)
    → (read_line m line ≡ Some p → HasLine m p line) × (HasLine m p line → read_line m line ≡ Some p)

-- A header is read of a line exactly where it has this line.
abbrev pub HeadersAreRead : Type 0
HeadersAreRead = (line bytes : List ℕ)
    → (read_header line ≡ Some bytes → HasHeaderLine bytes line) × (HasHeaderLine bytes line → read_header line ≡ Some bytes)

-- What is read of a text is a file with this listing.
abbrev pub ReadIsListed : Type 0
ReadIsListed = (text : List ℕ) (l : Listed) → read_listing text ≡ Some l
    → AreBytes (file_of l) × IsListing (file_of l) text × (l ≡ listed_of (file_of l))

-- The listing of a file is read, and gives its bytes.
abbrev pub ListedIsRead : Type 0
ListedIsRead = (bytes text : List ℕ) → AreBytes bytes → IsListing bytes text
    → (read_listing text ≡ Some (listed_of bytes)) × (file_of (listed_of bytes) ≡ bytes)

-- Two files with one listing are equal.
abbrev pub OneListing : Type 0
OneListing = (a b text : List ℕ) → AreBytes a → AreBytes b → IsListing a text → IsListing b text → a ≡ b

-- The first lines of a listing are a listing, with its header and its first blocks.
abbrev pub FrontsAreListings : Type 0
FrontsAreListings = (h : List ℕ) (ls more : List (List ℕ)) (l : Listed) → read_lines ((h ∷ ls) ++ more) ≡ Some l
    → (front : Listed) × (read_lines (h ∷ ls) ≡ Some front) × (front.header ≡ l.header)
    × ((rest : List Part) × (l.parts ≡ front.parts ++ rest))

-- Both styles of ids read what they show: numbers in listings, names in scripts.
abbrev pub StylesRead : Type 0
StylesRead = IsStyle numbered × IsStyle named

-- A statement of a script is read exactly where it shows so.
abbrev pub StatementsAreRead : Type 0
StatementsAreRead = (m : ℕ) (tokens : List (List ℕ)) (e : Event)
    → (read_statement m tokens ≡ Some e → IsStatement m tokens e) × (IsStatement m tokens e → read_statement m tokens ≡ Some e)

-- A line's form is read exactly where its tokens have it.
abbrev pub FormsAreRead : Type 0
FormsAreRead = (m : ℕ) (tokens : List (List ℕ)) (f : Form)
    → (form_of m tokens ≡ Some f → IsForm m tokens f) × (IsForm m tokens f → form_of m tokens ≡ Some f)

-- What a line of a script gives is computed, and it gives nothing else.
abbrev pub OutcomesAreComputed : Type 0
OutcomesAreComputed = (number through : ℕ) (r : Reading) (line : List ℕ)
    → IsOutcome number through r line (line_outcome number through r line)
    × ((outcome : Outcome) → IsOutcome number through r line outcome → outcome ≡ line_outcome number through r line)

-- What a text parses to is computed, and it parses to nothing else.
abbrev pub ParsesAreComputed : Type 0
ParsesAreComputed = (text : List ℕ)
    → Parses text (parse_of text) × ((parsed : Parsed) → Parses text parsed → parsed ≡ parse_of text)
