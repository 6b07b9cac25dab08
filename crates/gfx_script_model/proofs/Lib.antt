mod Opened
mod ScriptExamples
mod RunExamples
