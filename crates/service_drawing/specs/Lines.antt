-- How a description is spelled.
use Rattle.std.specs.Prelude.{◌≡◌, ◌&&◌, Bool, ℕ, ◌<◌, ◌≤◌, ◌^◌, List, [], ◌∷◌, ◌++◌, ◌+◌, ◌⊎◌, codes, length, filter_map, option_map, Option, Some, None, IsTrue, nat_eq}
use Rattle.std.specs.List.{starts_with, AllPass}
use Rattle.std.specs.Int.{is_power_of_two}
use Rattle.std.specs.Fmt.{decimal}
use Rattle.iox2_texts.specs.Attribute.{IsListing}
use Rattle.iox2_texts.specs.Name.{IsName}
use Rattle.iox2_texts.specs.Pair.{Pair}
use Rattle.iox2_texts.specs.Path.{IsRestrictedName}
use Rattle.iox2_texts.specs.Verify.{Requirements}
use Rattle.iox2_config.specs.Hashing.{hash_input, pattern_word, sha1_text}
use Rattle.iox2_config.specs.TypeDetailParts.{TypeDetailParts}
use Rattle.iox2_config.specs.TypeDetails.{IsTypeName}
use Rattle.iox2_config.specs.declared.hash.input.PatternKind.{PatternKind}
use Rattle.iox2_config.specs.declared.hash.input.PatternKind.TheVariants.{PublishSubscribe, Event, RequestResponse, Blackboard}
use Rattle.iox2_config.specs.declared.types.message_details.MessageTypeDetails.{MessageTypeDetails}
use Rattle.iox2_config.specs.declared.types.type_detail.TypeVariant.{TypeVariant}
use Rattle.iox2_config.specs.declared.types.type_detail.TypeVariant.TheVariants.{FixedSize, Dynamic}
use Rattle.line_streams.specs.Spelling.{HasNo}
use Rattle.std.proofs.Math.Dec.{leb}
use Rattle.service_drawing.specs.declared.description.Exchange.{Exchange}
use Rattle.service_drawing.specs.declared.description.Exchange.TheVariants as exchanged
use Rattle.service_drawing.specs.declared.description.Message.{Message}
use Rattle.service_drawing.specs.declared.reading.cause.Reason.{Reason}
use Rattle.service_drawing.specs.declared.reading.cause.Reason.TheVariants as reason
use Rattle.service_drawing.specs.declared.reading.cause.Expected.{Expected}
use Rattle.service_drawing.specs.declared.reading.service.Service.{Service}

-- a line may hold the byte
abbrev pub is_plain : ℕ → Bool
is_plain b = leb 32 b && leb b 126

-- a line may hold the text: each byte is from 32 to 126
abbrev pub IsPlain : List ℕ → Type 0
IsPlain text = AllPass is_plain text

-- the bytes begin with a line that holds this text, and the rest follows its newline
pub record IsLine (text rest bytes : List ℕ) : Type 0 where
  pub spelled : bytes ≡ text ++ 10 ∷ rest
  pub plain : IsPlain text

-- the bytes begin with no line that begins so
abbrev pub HasNoLine : List ℕ → List ℕ → Type 0
HasNoLine begin bytes = (text rest : List ℕ) → ¬ IsLine (begin ++ text) rest bytes

-- both begin with the same lines, one or more
pub record BeginAlike (one other : List ℕ) : Type 0 where
  pub lines : List ℕ
  pub rest : List ℕ
  pub other_rest : List ℕ
  pub first : one ≡ lines ++ 10 ∷ rest
  pub second : other ≡ lines ++ 10 ∷ other_rest

-- both are the same, or begin with the same line
abbrev pub HasSameLine : List ℕ → List ℕ → Type 0
HasSameLine one other = (one ≡ other) ⊎ BeginAlike one other

-- what this says begins the bytes
abbrev pub Begins : {A : Type 0} → (A → List ℕ → List ℕ → Type 0) → List ℕ → Type 0
Begins {A} Has bytes = (x : A) × (rest : List ℕ) × Has x rest bytes

-- this is the bytes, whole
abbrev pub Whole : {A : Type 0} → (A → List ℕ → List ℕ → Type 0) → List ℕ → Type 0
Whole {A} Has bytes = (x : A) × Has x [] bytes

-- the bytes are whole lines, or none
abbrev pub AreLines : List ℕ → Type 0
AreLines bytes = (bytes ≡ []) ⊎ ((lines : List ℕ) × (bytes ≡ lines ++ 10 ∷ []))

-- what is left of the bytes begins with the first line that none has there: something whole begins
-- with the lines that were read, and nothing good goes on after them with that line
pub record Stops (IsWhole IsGood : List ℕ → Type 0) (left bytes : List ℕ) : Type 0 where
  pub read : List ℕ
  pub lines : AreLines read
  pub all : bytes ≡ read ++ left
  pub more : List ℕ
  pub begun : IsWhole (read ++ more)
  pub stops : (other : List ℕ) → HasSameLine left other → ¬ IsGood (read ++ other)

-- what is left begins with the first line that nothing of this kind has there
abbrev pub StopsAt : {A : Type 0} → (A → List ℕ → List ℕ → Type 0) → List ℕ → List ℕ → Type 0
StopsAt Has left bytes = Stops (Whole Has) (Begins Has) left bytes

-- the bytes begin with a line that begins so and then is the text of a value that is legal
pub record HasLine {A : Type 0} (begin : List ℕ) (IsLegal : A → Type 0) (text : A → List ℕ) (x : A)
    (rest bytes : List ℕ) : Type 0 where
  pub line : IsLine (begin ++ text x) rest bytes
  pub legal : IsLegal x

-- A form of lines: which value the bytes begin with, and what follows it; and where reading one
-- fails, which is where what is left begins.
pub record Form (A : Type 0) : Type 1 where
  pub Has : A → List ℕ → List ℕ → Type 0
  pub Fails : List ℕ → List ℕ → Type 0

-- a form of at most one line: reading fails where it would begin
abbrev pub at_once : {A : Type 0} → (A → List ℕ → List ℕ → Type 0) → Form A
at_once {A} Has = record {
  Has = Has;
  Fails = λ left bytes. (left ≡ bytes) × ((x : A) (rest : List ℕ) → ¬ Has x rest bytes);
}

-- no line, for this value alone
abbrev pub no_lines : {A : Type 0} → A → Form A
no_lines only = at_once (λ x rest bytes. (x ≡ only) × (rest ≡ bytes))

-- a line that begins so and then is the text of a value that is legal
abbrev pub line : {A : Type 0} → List ℕ → (A → Type 0) → (A → List ℕ) → Form A
line begin IsLegal text = at_once (HasLine begin IsLegal text)

-- a form of many lines: reading fails at the first line that none has there
abbrev pub line_by_line : {A : Type 0} → (A → List ℕ → List ℕ → Type 0) → Form A
line_by_line Has = record { Has = Has; Fails = StopsAt Has }

-- one form, and then another, which depends on the value of the first
abbrev pub then : {A K B : Type 0} → Form A → (A → K) → (K → Form B) → Form (A × B)
then {A} F key G = record {
  Has = λ pair rest bytes.
      (mid : List ℕ) × F.Has pair.0 mid bytes × (G (key pair.0)).Has pair.1 rest mid;
  Fails = λ left bytes.
      F.Fails left bytes
      ⊎ ((x : A) × (mid : List ℕ) × F.Has x mid bytes × (G (key x)).Fails left mid);
}

-- one form, and then another
abbrev pub sequence : {A B : Type 0} → Form A → Form B → Form (A × B)
sequence F G = then F (λ x. tt) (λ (j : Unit {0}). G)

-- a value that is made of that of a form
abbrev pub made : {A B : Type 0} → Form A → (A → B) → Form B
made {A} F make = record {
  Has = λ y rest bytes. (x : A) × (y ≡ make x) × F.Has x rest bytes;
  Fails = F.Fails;
}

-- reading the form fails where something else was expected, and for its form alone
abbrev pub IsFailure : {A : Type 0} → Form A → List ℕ → Expected → Type 0
IsFailure F bytes expected =
    F.Fails expected.rest.now bytes × (expected.reason ≡ reason.OtherForm)

-- the bytes begin with a line for each of these in this order, up to what is left: the line begins
-- so and then spells it
abbrev pub UpTo : {A : Type 0} → List ℕ → (A → List ℕ → Type 0) → List A → List ℕ → List ℕ → Type 0
UpTo begin Spells [] left bytes = bytes ≡ left
UpTo begin Spells (x ∷ xs) left bytes =
    (mid : List ℕ) × (text : List ℕ) × IsLine (begin ++ text) mid bytes × Spells x text
    × UpTo begin Spells xs left mid

-- the bytes begin with a line of each of these, of which this value is made
pub record ReadMany {A B : Type 0} (begin : List ℕ) (Spells : A → List ℕ → Type 0)
    (Make : List A → B → Type 0) (x : B) (rest bytes : List ℕ) : Type 0 where
  pub each : List A
  pub lines : UpTo begin Spells each rest bytes
  pub make : Make each x

-- and no more of them follow
pub record HasMany {A B : Type 0} (begin : List ℕ) (Spells : A → List ℕ → Type 0)
    (Make : List A → B → Type 0) (x : B) (rest bytes : List ℕ) : Type 0 where
  pub read : ReadMany begin Spells Make x rest bytes
  pub ends : HasNoLine begin rest

-- a line may give the alignment: a power of two that a number of 64 bits can be
abbrev pub IsGiven : ℕ → Type 0
IsGiven alignment = (alignment < 2 ^ 64) × IsTrue (is_power_of_two alignment)

-- lines may describe the type
pub record IsDescribed (t : TypeDetailParts) : Type 0 where
  pub size : t.size < 2 ^ 64
  pub alignment : IsGiven t.alignment
  pub named : 1 ≤ length t.type_name
  pub type_name : IsTypeName t.type_name

-- the size, the alignment and the name of a type
abbrev pub type_text : TypeDetailParts → List ℕ
type_text t = decimal t.size ++ 32 ∷ (decimal t.alignment ++ 32 ∷ t.type_name)

-- the word for a variant
abbrev pub variant_word : TypeVariant → List ℕ
variant_word FixedSize = codes "fixed "
variant_word Dynamic = codes "dynamic "

-- the variant and the type of a payload
abbrev pub payload_text : TypeDetailParts → List ℕ
payload_text t = variant_word t.variant ++ type_text t

-- the alignments of a message's parts
abbrev pub alignments_text : MessageTypeDetails → List ℕ
alignments_text d =
    decimal d.header.alignment ++ 32
    ∷ (decimal d.user_header.alignment ++ 32 ∷ decimal d.payload.alignment)

-- a line may give the alignments of a message's parts
pub record AreAlignments (d : MessageTypeDetails) : Type 0 where
  pub header : IsGiven d.header.alignment
  pub user_header : IsGiven d.user_header.alignment
  pub payload : IsGiven d.payload.alignment

-- lines may describe a type that has one value in a message
abbrev pub IsFixed : TypeDetailParts → Type 0
IsFixed t = (t.variant ≡ FixedSize) × IsDescribed t

-- the line of a type that has one value in a message: it begins so
abbrev pub type_line : List ℕ → Form TypeDetailParts
type_line begin = line begin IsFixed type_text

-- the line of a payload
abbrev pub payload_line : List ℕ → Form TypeDetailParts
payload_line prefix = line (prefix ++ codes "payload ") IsDescribed payload_text

-- the bytes begin with the line of the number of elements, which a dynamic payload has
abbrev pub HasElements : List ℕ → TypeVariant → ℕ → List ℕ → List ℕ → Type 0
HasElements prefix FixedSize n rest bytes = (n ≡ 1) × (rest ≡ bytes)
HasElements prefix Dynamic n rest bytes =
    HasLine (prefix ++ codes "elements ") (λ n. n < 2 ^ 64) decimal n rest bytes

-- the line of the number of elements
abbrev pub elements_line : List ℕ → TypeVariant → Form ℕ
elements_line prefix variant = at_once (HasElements prefix variant)

-- the bytes begin with the line of an opener's alignments, or with none
abbrev pub HasOpener : List ℕ → Option MessageTypeDetails → List ℕ → List ℕ → Type 0
HasOpener prefix None rest bytes = (rest ≡ bytes) × HasNoLine (prefix ++ codes "opener ") bytes
HasOpener prefix (Some opener) rest bytes =
    HasLine (prefix ++ codes "opener ") AreAlignments alignments_text opener rest bytes

-- the line of an opener's alignments, if it stands there
abbrev pub opener_line : List ℕ → Form (Option MessageTypeDetails)
opener_line prefix = at_once (HasOpener prefix)

-- the opener's types are those of the service but for their alignments
abbrev pub aligned : MessageTypeDetails → MessageTypeDetails → MessageTypeDetails
aligned service opener = record {
  header = record service.header { alignment = opener.header.alignment };
  user_header = record service.user_header { alignment = opener.user_header.alignment };
  payload = record service.payload { alignment = opener.payload.alignment };
}

-- the message of its lines
abbrev pub message_of : TypeDetailParts × (TypeDetailParts
    × (TypeDetailParts × (ℕ × Option MessageTypeDetails))) → Message
message_of (header, (user_header, (payload, (elements, opener)))) =
    let details : MessageTypeDetails =
    record { header = header; user_header = user_header; payload = payload } in
    record {
      details = details;
      elements = elements;
      opener = option_map (aligned details) opener;
    }

-- the lines of a message
abbrev pub message : List ℕ → Form Message
message prefix =
    made (sequence (type_line (prefix ++ codes "header "))
    (sequence (type_line (prefix ++ codes "user-header "))
    (then (payload_line prefix) (λ t. t.variant)
    (λ variant. sequence (elements_line prefix variant) (opener_line prefix)))))
    message_of

-- what the lines of this pattern say of messages and keys
abbrev pub exchange : PatternKind → Form Exchange
exchange PublishSubscribe = made (message []) exchanged.PublishSubscribe
exchange Event = no_lines exchanged.Event
exchange RequestResponse =
    made (sequence (message (codes "request-")) (message (codes "response-")))
    (λ both. exchanged.RequestResponse both.0 both.1)
exchange Blackboard = made (type_line (codes "key ")) exchanged.Blackboard

-- a line may give the key of an attribute: 1 to 64 bytes, none of which is a space
pub record IsKey (key : List ℕ) : Type 0 where
  pub name : IsName 64 key
  pub word : HasNo 32 key

-- a line may give the key and the value, of 1 to 256 bytes
pub record IsPair (pair : Pair) : Type 0 where
  pub key : IsKey pair.key
  pub value : IsName 256 pair.value

-- a key and a value with a space between them
abbrev pub pair_text : Pair → List ℕ
pair_text pair = pair.key ++ 32 ∷ pair.value

-- the text gives the pair
abbrev pub GivesPair : Pair → List ℕ → Type 0
GivesPair pair text = IsPair pair × (text ≡ pair_text pair)

-- at most 16 pairs, of which this is the set
abbrev pub AreAttributes : List Pair → List Pair → Type 0
AreAttributes pairs set = (length pairs ≤ 16) × IsListing pairs set

-- the bytes begin with the lines of the attributes of this set
abbrev pub HasAttributes : List Pair → List ℕ → List ℕ → Type 0
HasAttributes = HasMany (codes "attribute ") GivesPair AreAttributes

-- what a line requires
pub data Requirement : Type 0 where
  OfPair : Pair → Requirement
  -- with any value
  OfKey : List ℕ → Requirement

-- the text after `require` gives the pair or the key
abbrev pub GivesRequirement : Requirement → List ℕ → Type 0
GivesRequirement (OfPair pair) text = IsPair pair × (text ≡ 32 ∷ pair_text pair)
GivesRequirement (OfKey key) text = IsKey key × (text ≡ codes "-key " ++ key)

-- the pair or the key is required besides
abbrev pub RequiresToo : Requirements → Requirement → Requirements → Type 0
RequiresToo old (OfPair pair) new = IsListing (pair ∷ old.pairs) new.pairs × (new.keys ≡ old.keys)
RequiresToo old (OfKey key) new = new ≡ record { pairs = old.pairs; keys = old.keys ++ key ∷ [] }

-- how many pairs and keys are required
abbrev pub number_required : Requirements → ℕ
number_required required = length required.pairs + length required.keys

-- there is room for one more, which the text gives, and it is required besides
pub record RequiresMore (old : Requirements) (text : List ℕ) (new : Requirements) : Type 0 where
  pub each : Requirement
  pub gives : GivesRequirement each text
  pub room : number_required old < 16
  pub added : RequiresToo old each new

-- there is no room for one more, or the text gives none
abbrev pub RequiresNoMore : Requirements → List ℕ → Type 0
RequiresNoMore old text =
    (16 ≤ number_required old) ⊎ ((each : Requirement) → ¬ GivesRequirement each text)

-- the pair that is required, if it is one
abbrev pub pair_of : Requirement → Option Pair
pair_of (OfPair pair) = Some pair
pair_of (OfKey key) = None

-- the key that is required, if it is one
abbrev pub key_of : Requirement → Option (List ℕ)
key_of (OfPair pair) = None
key_of (OfKey key) = Some key

-- this is what at most 16 lines require
abbrev pub AreRequired : List Requirement → Requirements → Type 0
AreRequired each required =
    (length each ≤ 16) × IsListing (filter_map pair_of each) required.pairs
    × (filter_map key_of each ≡ required.keys)

-- the bytes begin with the lines of what is required
abbrev pub HasRequirements : Requirements → List ℕ → List ℕ → Type 0
HasRequirements = HasMany (codes "require") GivesRequirement AreRequired

-- a service of this pattern may have the name: 1 to 255 bytes, not that of
-- an internal service, and its hash text is one that a service can have
pub record MayBeNamed (kind : PatternKind) (text : List ℕ) : Type 0 where
  pub name : IsName 255 text
  pub from_outside : ¬ IsTrue (starts_with nat_eq text (codes "iox2://"))
  pub hashed : IsRestrictedName 64 (sha1_text (hash_input kind text))

-- the bytes begin with the line of a service
pub record HasService (kind : PatternKind) (name rest bytes : List ℕ) : Type 0 where
  pub line : IsLine (pattern_word kind ++ 32 ∷ name) rest bytes
  pub named : MayBeNamed kind name

-- the hash text is that of the pattern and the name
abbrev pub IsHashed : Service → Type 0
IsHashed s = s.hash ≡ sha1_text (hash_input s.kind s.name)

-- the line names a service as those of the system itself are named
abbrev pub IsInternal : List ℕ → Type 0
IsInternal line =
    (kind : PatternKind) × (name : List ℕ) × (line ≡ pattern_word kind ++ 32 ∷ name)
    × IsTrue (starts_with nat_eq name (codes "iox2://"))

-- for this reason the line spells no service: an internal name is reported wherever there is one
abbrev pub IsNoService : List ℕ → Reason → Type 0
IsNoService line reason.InternalName = IsInternal line
IsNoService line reason.OtherForm = ¬ IsInternal line
IsNoService line other = ⊥
