-- The details that stand where none were given.
use Rattle.iox2_config.specs.TypeDetailParts.{default_detail}
use Rattle.iox2_config.specs.declared.types.message_details.MessageTypeDetails.{MessageTypeDetails}

-- the details of all parts of a message, where none were given
abbrev pub default_details : MessageTypeDetails
default_details =
    record { header = default_detail; user_header = default_detail; payload = default_detail }
