-- What values give to a hasher.
use Rattle.std.specs.Prelude.{◌++◌, pos}
use Rattle.std.specs.Hash.{HashWrites, isize, usize}
use Rattle.iox2_texts.specs.Pair.{text_writes}
use Rattle.iox2_config.specs.TypeDetailParts.{TypeDetailParts}
use Rattle.iox2_config.specs.declared.types.message_details.MessageTypeDetails.{MessageTypeDetails}
use Rattle.iox2_config.specs.declared.types.type_detail.TypeVariant.{TypeVariant}
use Rattle.iox2_config.specs.declared.types.type_detail.TypeVariant.TheVariants.{FixedSize, Dynamic}

-- what a variant gives: its number among the variants
abbrev pub variant_writes : TypeVariant → HashWrites
variant_writes FixedSize = isize (pos 0)
variant_writes Dynamic = isize (pos 1)

-- what a type's details give: each part in turn
abbrev pub detail_writes : TypeDetailParts → HashWrites
detail_writes d = variant_writes d.variant
    ++ (text_writes d.type_name ++ (usize d.size ++ usize d.alignment))

-- what a message's details give: those of each of its types in turn
abbrev pub details_writes : MessageTypeDetails → HashWrites
details_writes d = detail_writes d.header
    ++ (detail_writes d.user_header ++ detail_writes d.payload)
