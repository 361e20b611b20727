-- The names of the crates below, and of the declared types, that the definitions cite.
pub use Rattle.config_report.specs.Findings.{IsInOrder, IsText, IsUnread}
pub use Rattle.config_report.specs.Notes.{Note, topic_note, unknown, unknown_position, fault, fault_position, finding_view}
pub use Rattle.config_report.specs.declared.check.Unread.{Unread}
pub use Rattle.iox2_config.specs.GlobalSettings.{GlobalSettings}
pub use Rattle.iox2_config.specs.declared.config.Config.{Config}
pub use Rattle.iox2_config_file.specs.Answers.{ReadsBack, ReadsAll}
pub use Rattle.iox2_config_file.specs.Read.{fault_view, Located}
pub use Rattle.iox2_config_file.specs.declared.read.FileContents.{FileContents}
pub use Rattle.iox2_config_file.specs.declared.section.Section.{Section}
pub use Rattle.iox2sd_common.specs.Answers.{Writes, fit_status, zero_padded, count_answer}
pub use Rattle.iox2sd_common.specs.Status.{code, status_text}
pub use Rattle.iox2sd_common.specs.declared.status.Status.{Status}
pub use Rattle.iox2sd_config.specs.declared.config.PlainConfig.{PlainConfig}
pub use Rattle.iox2sd_config.specs.declared.config.PlainText.{PlainText}
pub use Rattle.iox2sd_config.specs.declared.config.PlainTexts.{PlainTexts}
pub use Rattle.iox2sd_config.specs.declared.fault.PlainFault.{PlainFault}
pub use Rattle.toml_positions.specs.declared.position.Position.{Position}
